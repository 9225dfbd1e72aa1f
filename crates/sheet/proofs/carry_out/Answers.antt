-- `sheet::carry_out` carries one of the five commands out, or refuses it.
use borrow.Author.Rules.{rules}
use native.Mathlib.Omega.{arith}
use Rattle.beginning.proofs.Held.{reaches_rising}
use Rattle.sheet.proofs.Outcomes.{as_add, as_draw, as_run, as_decide, as_undo}
use Rattle.sheet.proofs.Flags.{add_no_run, draw_no_run, decide_no_run, undo_no_run, command_flagged}
use Rattle.sheet.proofs.carry_out.Goals as goal

pub add-requires-clause-parts_bound : goal.add-requires-clause-parts_bound
add-requires-clause-parts_bound c = omega (arith, c.args.catalogue.now.index.areas.tables.laid.parts)

pub undo-requires : goal.undo-requires
undo-requires c = search (rules, reaches_rising)

pub returns-in-Add-clause-command_did : goal.returns-in-Add-clause-command_did
returns-in-Add-clause-command_did c = (as_add _ _ _ _ _ _ c.in-Add.is c.add.ensures)

pub returns-in-Add-clause-flagged_after : goal.returns-in-Add-clause-flagged_after
returns-in-Add-clause-flagged_after c = command_flagged _ (add_no_run _ _ c.in-Add.is) c.requires.reaches (as_add _ _ _ _ _ _ c.in-Add.is c.add.ensures) c.requires.flagged

pub returns-in-Draw-clause-command_did : goal.returns-in-Draw-clause-command_did
returns-in-Draw-clause-command_did c = (as_draw _ _ c.in-Draw.is c.draw.ensures)

pub returns-in-Draw-clause-flagged_after : goal.returns-in-Draw-clause-flagged_after
returns-in-Draw-clause-flagged_after c = command_flagged _ (draw_no_run _ _ c.in-Draw.is) c.requires.reaches (as_draw _ _ c.in-Draw.is c.draw.ensures) c.requires.flagged

pub returns-in-Run-clause-command_did : goal.returns-in-Run-clause-command_did
returns-in-Run-clause-command_did c = as_run _ _ c.in-Run.is c.run.ensures.command_did

pub returns-in-Decide-clause-command_did : goal.returns-in-Decide-clause-command_did
returns-in-Decide-clause-command_did c = (as_decide _ _ _ _ c.in-Decide.is c.decide.ensures)

pub returns-in-Decide-clause-flagged_after : goal.returns-in-Decide-clause-flagged_after
returns-in-Decide-clause-flagged_after c = command_flagged _ (decide_no_run _ _ _ _ c.in-Decide.is) c.requires.reaches (as_decide _ _ _ _ c.in-Decide.is c.decide.ensures) c.requires.flagged

pub returns-in-Undo-clause-command_did : goal.returns-in-Undo-clause-command_did
returns-in-Undo-clause-command_did c = (as_undo _ _ c.in-Undo.is c.undo.ensures)

pub returns-in-Undo-clause-flagged_after : goal.returns-in-Undo-clause-flagged_after
returns-in-Undo-clause-flagged_after c = command_flagged _ (undo_no_run _ _ c.in-Undo.is) c.requires.reaches (as_undo _ _ c.in-Undo.is c.undo.ensures) c.requires.flagged

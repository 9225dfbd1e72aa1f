-- `sheet::run` carries a run out, or refuses a level that is too low or a run that would end above a limit.
use Rattle.encoder.proofs.Did.{told_full, told_going}
use Rattle.sheet.proofs.Running.{run_low, run_full_law, run_done}
use Rattle.sheet.proofs.Flags.{after_refused, after_carried}
use Rattle.sheet.proofs.run.Goals as goal

pub returns-then-level_too_low-clause-command_did : goal.returns-then-level_too_low-clause-command_did
returns-then-level_too_low-clause-command_did c = run_low _ _ c.level_too_low.ensures c.if-level_too_low.true

pub returns-then-level_too_low-clause-flagged_after : goal.returns-then-level_too_low-clause-flagged_after
returns-then-level_too_low-clause-flagged_after c = after_refused

pub returns-then-state-ne0-clause-command_did : goal.returns-then-state-ne0-clause-command_did
returns-then-state-ne0-clause-command_did c = run_full_law _ _ c.level_too_low.ensures c.if-level_too_low.false c.run_once.ensures.runs_once (told_full c.if-state-ne0.true)

pub returns-then-state-ne0-clause-flagged_after : goal.returns-then-state-ne0-clause-flagged_after
returns-then-state-ne0-clause-flagged_after c = after_refused

pub returns-clause-command_did : goal.returns-clause-command_did
returns-clause-command_did c = run_done _ _ c.level_too_low.ensures c.if-level_too_low.false c.run_once.ensures.runs_once (told_going c.if-state-ne0.false)

pub returns-clause-flagged_after : goal.returns-clause-flagged_after
returns-clause-flagged_after c = after_carried c.run_once.ensures.flagged_2

use native.Mathlib.Omega.{arith}
use Rattle.encoder.proofs.Does.{at_catalogue, good_then}
use Rattle.parts.proofs.Names.{part_fits, naming_end}
use Rattle.constraints.proofs.OutsideLaws.{name_first_law, name_next}
use Rattle.constraints.proofs.outside.name_outside.Goals as goal

pub loop-p-init : goal.loop-p-init
loop-p-init c = name_first_law c.requires.good c.first_chosen-first.ensures c.next_unnamed-p.ensures

pub name_variable-requires-clause-o_value : goal.name_variable-requires-clause-o_value
name_variable-requires-clause-o_value c = part_fits _ (omega (arith, c.loop-p-test.true, c.args.index.now.areas.held.laid.parts))

pub loop-p-preserved : goal.loop-p-preserved
loop-p-preserved c = name_next c.loop-p.invariant c.loop-p-test.true c.name_variable.ensures c.next_outside-next.ensures c.next_unnamed-p-in-loop-p.ensures

pub returns : goal.returns
returns c = naming_end _ _ _ _ c.loop-p.invariant.done c.loop-p-test.false

pub next_unnamed-p-requires-in-loop-p : goal.next_unnamed-p-requires-in-loop-p
next_unnamed-p-requires-in-loop-p c =
    record { mapped = ((good_then (at_catalogue c.name_variable.ensures) c.loop-p.invariant.done.good).good.state.mapped, c.requires.r_lt_ranges, c.next_outside-next.ensures.inside) }

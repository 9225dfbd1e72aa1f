use native.Mathlib.Omega.{arith}
use mathlib.Core.Path.{refl}
use Rattle.index.proofs.Steps.{favoured_none_yet, parts_keyed_still, favoured_at, favoured_below, favoured_step, favoured_last, favoured_others}
use Rattle.index.proofs.building.Building.bound_parts.Goals as goal

pub loop-i-init : goal.loop-i-init
loop-i-init c = favoured_none_yet _ refl

pub bound_part-requires-clause-keyed : goal.bound_part-requires-clause-keyed
bound_part-requires-clause-keyed c = parts_keyed_still c.start_favoured.ensures.others c.start_favoured.ensures.favouring c.loop-i.invariant c.requires

pub bound_part-requires-clause-favoured : goal.bound_part-requires-clause-favoured
bound_part-requires-clause-favoured c = (favoured_at _ c.loop-i.invariant (omega arith), favoured_below c.loop-i.invariant (omega arith))

pub loop-i-preserved : goal.loop-i-preserved
loop-i-preserved c = favoured_step c.loop-i.invariant c.bound_part.ensures.favouring c.bound_part.ensures.others

pub returns-clause-favouring : goal.returns-clause-favouring
returns-clause-favouring c = favoured_last c.start_favoured.ensures.others c.start_favoured.ensures.favouring c.loop-i.invariant (omega arith)

pub returns-clause-others : goal.returns-clause-others
returns-clause-others c = favoured_others c.start_favoured.ensures.others c.start_favoured.ensures.favouring c.loop-i.invariant

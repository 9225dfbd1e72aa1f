use native.Mathlib.Omega.{arith}
use borrow.Author.Rules.{rules}
use mathlib.Core.Path.{refl}
use Rattle.index.proofs.Steps.{favoured_none_yet, favoured_head}
use Rattle.index.proofs.building.Building.start_favoured.Goals as goal

pub loop-name-init : goal.loop-name-init
loop-name-init c = favoured_none_yet _ refl

pub loop-name-preserved : goal.loop-name-preserved
loop-name-preserved c = favoured_head c.loop-name.invariant (omega arith) c.put.ensures (search rules)

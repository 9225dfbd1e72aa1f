use native.Mathlib.Omega.{arith}
use Rattle.index.proofs.Steps.{relinked_none_yet, relinked_asked, relinked_below, relinked_step}
use Rattle.index.proofs.building.Building.shorten_unions.Goals as goal

pub loop-union-init : goal.loop-union-init
loop-union-init c = relinked_none_yet _ c.requires

pub shorten_union-requires : goal.shorten_union-requires
shorten_union-requires c = record { links = (relinked_asked c.loop-union.invariant, relinked_below c.loop-union.invariant (omega arith)) }

pub loop-union-preserved : goal.loop-union-preserved
loop-union-preserved c = relinked_step c.loop-union.invariant c.shorten_union.ensures.relinked c.shorten_union.ensures.others

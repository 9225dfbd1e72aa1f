-- `constraints::outside::name_outside` gives each part outside the range its variable. The invariant: those below p have theirs, and p has none.
use Rattle.index.specs.Views.{catalogue_in, counts_in}
use Prim.Native.Nat.{◌-◌}
use Rattle.constraints.proofs.OutsideLaws.{ToName}
use Rattle.constraints.proofs.outside.name_outside.Given as goal

abbrev pub invariant-loop-p : goal.invariant-loop-p
invariant-loop-p l = ToName (catalogue_in l.index) l.r (counts_in l.index).parts l.initial.state l.state l.p

abbrev pub decreases-loop-p : goal.decreases-loop-p
decreases-loop-p l = (counts_in l.index).parts - l.p

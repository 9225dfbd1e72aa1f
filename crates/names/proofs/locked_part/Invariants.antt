-- `names::locked_part` finds the locked part of a name. The invariant: it is the first of those from p on.
use Rattle.index.specs.Views.{catalogue_in, counts_in}
use Prim.Native.Nat.{◌-◌}
use Rattle.names.proofs.Locked.{LockedFrom}
use Rattle.names.proofs.locked_part.Given as goal

abbrev pub invariant-loop-p : goal.invariant-loop-p
invariant-loop-p l = LockedFrom (catalogue_in l.index) l.name (counts_in l.index).parts l.p

abbrev pub decreases-loop-p : goal.decreases-loop-p
decreases-loop-p l = (counts_in l.index).parts - l.p

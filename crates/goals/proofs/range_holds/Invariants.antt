-- `goals::range_holds` tells whether some matching part of a range is decided true. The invariant: it is so among all if it is so from part p on.
use Rattle.index.specs.Views.{catalogue_of, counts_of}
use Prim.Native.Nat.{◌-◌}
use Rattle.goals.specs.Goals.{truth_in}
use Rattle.goals.proofs.Decided.{Seeking}
use Rattle.goals.proofs.range_holds.Given as goal

abbrev pub invariant-loop-p : goal.invariant-loop-p
invariant-loop-p l = Seeking (catalogue_of l.catalogue) l.r (truth_in l.assignment) l.p

abbrev pub decreases-loop-p : goal.decreases-loop-p
decreases-loop-p l = (counts_of l.catalogue).parts - l.p

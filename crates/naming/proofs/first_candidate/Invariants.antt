-- `naming::first_candidate`. The invariant: no matching part stands before part p.
use Rattle.index.specs.Views.{catalogue_of, counts_of}
use Prim.Native.Nat.{◌-◌}
use Rattle.naming.proofs.Firsts.{Searching}
use Rattle.naming.proofs.first_candidate.Given as goal

abbrev pub invariant-loop-p : goal.invariant-loop-p
invariant-loop-p l = Searching (catalogue_of l.catalogue) l.r l.p

abbrev pub decreases-loop-p : goal.decreases-loop-p
decreases-loop-p l = (counts_of l.catalogue).parts - l.p

-- `goals::range_false` tells whether every matching part of a range is decided false. The invariant: it is so of all if it is so from part p on.
use Rattle.index.specs.Views.{catalogue_of, counts_of}
use Prim.Native.Nat.{◌-◌}
use Rattle.encoder.specs.Does.{variables_of, decisions_of}
use Rattle.goals.proofs.Decided.{Denying}
use Rattle.goals.proofs.range_false.Given as goal

abbrev pub invariant-loop-p : goal.invariant-loop-p
invariant-loop-p l = Denying (catalogue_of l.catalogue) l.r (variables_of l.state) (decisions_of l.state) l.p

abbrev pub decreases-loop-p : goal.decreases-loop-p
decreases-loop-p l = (counts_of l.catalogue).parts - l.p

-- `parts::add_each` adds the clause of each of these. The invariant: those below p have theirs, and all have variables.
use Rattle.index.specs.Views.{catalogue_in, counts_in}
use Prim.Native.Nat.{◌-◌}
use Rattle.encoder.specs.Held.{run_of}
use Rattle.parts.proofs.Clauses.{AddedSoFar}
use Rattle.parts.proofs.add_each.Given as goal

abbrev pub invariant-loop-p : goal.invariant-loop-p
invariant-loop-p l = AddedSoFar (catalogue_in l.index) (run_of l.run) l.which l.adding (counts_in l.index).parts l.initial.state l.initial.clauses l.state l.clauses l.p

abbrev pub decreases-loop-p : goal.decreases-loop-p
decreases-loop-p l = (counts_in l.index).parts - l.p

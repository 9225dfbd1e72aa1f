-- `constraints::outside::add_outs` adds the clause of each part outside the range. The invariant: those below p have theirs.
use Rattle.index.specs.Views.{catalogue_in, counts_in}
use Prim.Native.Nat.{◌-◌}
use Rattle.encoder.specs.Held.{run_of}
use Rattle.parts.specs.declared.Adding.TheVariants.{AuxOut}
use Rattle.parts.proofs.Clauses.{AddedSoFar}
use Rattle.constraints.specs.Outside.{outside}
use Rattle.constraints.proofs.outside.add_outs.Given as goal

abbrev pub invariant-loop-p : goal.invariant-loop-p
invariant-loop-p l = AddedSoFar (catalogue_in l.index) (run_of l.run) (outside l.r) (AuxOut l.y) (counts_in l.index).parts l.initial.state l.initial.clauses l.state l.clauses l.p

abbrev pub decreases-loop-p : goal.decreases-loop-p
decreases-loop-p l = (counts_in l.index).parts - l.p

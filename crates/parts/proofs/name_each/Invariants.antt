-- `parts::name_each` names each of these. The invariant: those below p are named.
use Rattle.index.specs.Views.{catalogue_in, counts_in}
use Prim.Native.Nat.{◌-◌}
use Rattle.parts.proofs.Names.{NamedSoFar}
use Rattle.parts.proofs.name_each.Given as goal

abbrev pub invariant-loop-p : goal.invariant-loop-p
invariant-loop-p l = NamedSoFar (catalogue_in l.index) l.which l.naming (counts_in l.index).parts l.initial.state l.state l.p

abbrev pub decreases-loop-p : goal.decreases-loop-p
decreases-loop-p l = (counts_in l.index).parts - l.p

-- `goals::gather_union` lists the ranges of a union, each once. The invariant: the list at hand is that of the rows before.
use Rattle.index.specs.Views.{counts_of}
use Prim.Native.Nat.{◌-◌}
use Rattle.goals.proofs.Hand.{Gathering}
use Rattle.goals.proofs.gather_union.Given as goal

abbrev pub invariant-loop-i : goal.invariant-loop-i
invariant-loop-i l = Gathering (counts_of l.catalogue) l.catalogue.index.areas.unions.now l.u l.initial.state l.state l.count l.i

abbrev pub decreases-loop-i : goal.decreases-loop-i
decreases-loop-i l = (counts_of l.catalogue).members - l.i

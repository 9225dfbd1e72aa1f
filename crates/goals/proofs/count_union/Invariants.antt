-- `goals::count_union` counts the candidates of a union, and stops at `most`. The invariant: what was counted are the candidates of the rows before.
use Rattle.index.specs.Views.{counts_of}
use Prim.Native.Nat.{◌-◌}
use Rattle.goals.proofs.Counting.{Totalling}
use Rattle.goals.proofs.count_union.Given as goal

abbrev pub invariant-loop-i : goal.invariant-loop-i
invariant-loop-i l = Totalling (counts_of l.catalogue) l.catalogue.index.areas.marks.now l.catalogue.index.areas.unions.now l.catalogue.index.areas.tables.area.now l.u l.most l.total l.i

abbrev pub decreases-loop-i : goal.decreases-loop-i
decreases-loop-i l = (counts_of l.catalogue).members - l.i

-- `owners::open_union` goes along a union's ranges. The invariant: the names of those passed are opened.
use Rattle.index.specs.Views.{counts_of}
use Prim.Native.Nat.{◌-◌}
use Rattle.owners.proofs.Names.{Opened}
use Rattle.owners.proofs.open_union.Given as goal

abbrev pub invariant-loop-i : goal.invariant-loop-i
invariant-loop-i l = Opened (counts_of l.catalogue) l.catalogue.index.areas.marks.now l.catalogue.index.areas.unions.now l.catalogue.index.areas.tables.area.now l.u l.initial.state l.i l.state

abbrev pub decreases-loop-i : goal.decreases-loop-i
decreases-loop-i l = (counts_of l.catalogue).members - l.i

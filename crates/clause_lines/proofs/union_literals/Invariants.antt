-- `clause_lines::union_literals` prints the literals of a union, row by row; past the room it stops. The invariant: all is printed but the ranges from row i on, and the spans are kept.
use Rattle.index.specs.Views.{catalogue_of, counts_of}
use Prim.Native.Nat.{◌-◌}
use Rattle.encoder.specs.StateRefs.{variables_at}
use Rattle.clause_lines.specs.Spans.{Stand}
use Rattle.clause_lines.proofs.Walks.{Walking}
use Rattle.clause_lines.proofs.union_literals.Given as goal

abbrev pub invariant-loop-i : goal.invariant-loop-i
invariant-loop-i l =
    Walking (counts_of l.catalogue) l.catalogue.index.areas.marks.now l.catalogue.index.areas.unions.now l.catalogue.index.areas.tables.area.now (variables_at l.state) l.union l.i l.initial.writer l.writer
    × Stand (catalogue_of l.catalogue) (variables_at l.state) l.spans l.writer

abbrev pub decreases-loop-i : goal.decreases-loop-i
decreases-loop-i l = (counts_of l.catalogue).members - l.i

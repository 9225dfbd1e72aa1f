-- `clause_lines::clause_lines` prints a line for each clause; past the room it stops. At first no literals stand anywhere.
use Rattle.index.specs.Views.{catalogue_of}
use Rattle.text.specs.Writing.{Writes}
use Rattle.encoder.specs.StateRefs.{variables_at}
use Rattle.line_fields.specs.Listed.{texts, clause_text, clauses_stored}
use Rattle.clause_lines.specs.Spans.{Stand}
use Rattle.clause_lines.proofs.clause_lines.Given as goal

abbrev pub invariant-loop-i : goal.invariant-loop-i
invariant-loop-i l =
    Writes l.initial.writer l.writer (texts (clause_text (catalogue_of l.catalogue) (clauses_stored (catalogue_of l.catalogue) l.state l.clauses)) l.i)
    × Stand (catalogue_of l.catalogue) (variables_at l.state) l.spans l.writer

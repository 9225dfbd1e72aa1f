-- `clause_lines::assertion_lines` prints a line for each asserted variable.
use Rattle.index.specs.Views.{catalogue_of}
use Rattle.text.specs.Writing.{Writes}
use Rattle.line_fields.specs.Listed.{texts, assertion_text, clauses_stored}
use Rattle.clause_lines.proofs.assertion_lines.Given as goal

abbrev pub invariant-loop-i : goal.invariant-loop-i
invariant-loop-i l = Writes l.initial.writer l.writer (texts (assertion_text (clauses_stored (catalogue_of l.catalogue) l.state l.clauses)) l.i)

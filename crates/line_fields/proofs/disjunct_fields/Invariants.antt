-- `line_fields::disjunct_fields` prints the ranges of a disjunct.
use Rattle.text.specs.Writing.{Writes}
use Rattle.line_fields.specs.Listed.{texts, number_text}
use Rattle.line_fields.proofs.disjunct_fields.Given as goal

abbrev pub invariant-loop-range : goal.invariant-loop-range
invariant-loop-range l = Writes l.initial.writer l.writer (texts (number_text l.range-items) l.range-index)

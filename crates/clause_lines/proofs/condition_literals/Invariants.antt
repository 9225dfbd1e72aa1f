-- `clause_lines::condition_literals` prints the stored condition literals of a row.
use Rattle.text.specs.Writing.{Writes}
use Rattle.encoder.specs.StateRefs.{regions_at}
use Rattle.line_fields.specs.Listed.{texts, literal_text}
use Rattle.clause_lines.proofs.condition_literals.Given as goal

abbrev pub invariant-loop-j : goal.invariant-loop-j
invariant-loop-j l = Writes l.initial.writer l.writer (texts (literal_text (regions_at l.state 19) l.start) l.j)

-- `state_lines::conflict_lines` prints a line for each conflict.
use Rattle.text.specs.Writing.{Writes}
use Rattle.solver.specs.Rows.{rows}
use Rattle.line_fields.specs.Listed.{texts, conflict_text}
use Rattle.state_lines.proofs.conflict_lines.Given as goal

abbrev pub invariant-loop-i : goal.invariant-loop-i
invariant-loop-i l = Writes l.initial.writer l.writer (texts (conflict_text (rows l.count l.clauses)) l.i)

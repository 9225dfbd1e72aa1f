-- `state_lines::variable_lines` prints a line for each variable.
use Rattle.text.specs.Writing.{Writes}
use Rattle.encoder.specs.StateRefs.{variables_at}
use Rattle.line_fields.specs.Listed.{texts, variable_text}
use Rattle.state_lines.proofs.variable_lines.Given as goal

abbrev pub invariant-loop-i : goal.invariant-loop-i
invariant-loop-i l = Writes l.initial.writer l.writer (texts (variable_text (variables_at l.state)) l.i)

-- `state_lines::decision_lines` prints a line for each decision.
use Rattle.text.specs.Writing.{Writes}
use Rattle.encoder.specs.StateRefs.{decisions_at}
use Rattle.line_fields.specs.Listed.{texts, decision_text}
use Rattle.state_lines.proofs.decision_lines.Given as goal

abbrev pub invariant-loop-i : goal.invariant-loop-i
invariant-loop-i l = Writes l.initial.writer l.writer (texts (decision_text (decisions_at l.state)) l.i)

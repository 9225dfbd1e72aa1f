-- `state_lines::name_lines` prints a line for each opened name.
use Rattle.text.specs.Writing.{Writes}
use Rattle.encoder.specs.StateRefs.{regions_at}
use Rattle.marked.specs.Marked.{listed}
use Rattle.line_fields.specs.Listed.{texts, name_text}
use Rattle.state_lines.proofs.name_lines.Given as goal

abbrev pub invariant-loop-i : goal.invariant-loop-i
invariant-loop-i l = Writes l.initial.writer l.writer (texts (name_text (listed l.state.used.names 3 (regions_at l.state))) l.i)

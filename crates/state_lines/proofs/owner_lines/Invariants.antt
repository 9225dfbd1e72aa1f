-- `state_lines::owner_lines` prints a line for each opened owner.
use Rattle.text.specs.Writing.{Writes}
use Rattle.encoder.specs.StateRefs.{regions_at}
use Rattle.marked.specs.Marked.{listed}
use Rattle.line_fields.specs.Listed.{texts, owner_text}
use Rattle.state_lines.proofs.owner_lines.Given as goal

abbrev pub invariant-loop-i : goal.invariant-loop-i
invariant-loop-i l = Writes l.initial.writer l.writer (texts (owner_text (listed l.state.used.owners 1 (regions_at l.state))) l.i)

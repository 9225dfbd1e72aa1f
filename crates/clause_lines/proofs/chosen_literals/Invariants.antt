-- `clause_lines::chosen_literals` prints the literals of a choice, part by part.
use Rattle.index.specs.Views.{catalogue_of, counts_of}
use Prim.Native.Nat.{◌-◌, ◌≤◌}
use Rattle.text.specs.Writing.{Writes}
use Rattle.encoder.specs.StateRefs.{variables_at}
use Rattle.line_fields.specs.Listed.{texts, chosen_text}
use Rattle.clause_lines.proofs.chosen_literals.Given as goal

abbrev pub invariant-loop-p : goal.invariant-loop-p
invariant-loop-p l =
    Writes l.initial.writer l.writer (texts (chosen_text (catalogue_of l.catalogue) (variables_at l.state) l.range l.choice) l.p)
    × (l.p ≤ (counts_of l.catalogue).parts)

abbrev pub decreases-loop-p : goal.decreases-loop-p
decreases-loop-p l = (counts_of l.catalogue).parts - l.p

-- `text::Writer::field_literal` meets its contract, by the literal's sign.
use mathlib.Core.Path.{ap}
use Rattle.text.proofs.Laws.{literal_plus, literal_minus}
use Rattle.text.proofs.Writer.field_literal.Goals as goal
use Rattle.text.proofs.Writer.field_literal.Goals.{then-positive, else-positive}

pub returns : goal.returns
returns c =
    elim c.if-positive.branch [
      | then-positive w ↦ literal_plus _ _ _ c.number_behind.ensures w.if-positive.true (ap (λ r. r.now) w.lead-is)
      | else-positive w ↦ literal_minus _ _ _ c.number_behind.ensures w.if-positive.false (ap (λ r. r.now) w.lead-is)
    ]

-- `line_fields::decision_fields` prints the four fields of a decision.
use borrow.Author.Rules.{rules}
use Rattle.line_fields.proofs.Fields.{decision_fields_law}
use Rattle.line_fields.proofs.decision_fields.Goals as goal

pub returns : goal.returns
returns c = search (rules, decision_fields_law)

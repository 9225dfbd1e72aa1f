-- `line_fields::gate_fields` prints the word and the goal.
use borrow.Author.Rules.{rules}
use Rattle.line_fields.proofs.Fields.{gate_fields}
use Rattle.line_fields.proofs.gate_fields.Goals as goal

pub returns : goal.returns
returns c = search (rules, gate_fields)

-- `line_fields::requires_head` prints the word and the literal of the owner or the gate.
use borrow.Author.Rules.{rules}
use Rattle.line_fields.proofs.Fields.{requires_head}
use Rattle.line_fields.proofs.requires_head.Goals as goal

pub returns : goal.returns
returns c = search (rules, requires_head)

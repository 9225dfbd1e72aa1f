-- `line_fields::two_literals` prints a word and two literals.
use borrow.Author.Rules.{rules}
use Rattle.line_fields.proofs.Fields.{three_fields}
use Rattle.line_fields.proofs.two_literals.Goals as goal

pub returns : goal.returns
returns c = search (rules, three_fields)

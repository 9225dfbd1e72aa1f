-- `line_fields::word_and_number` prints two fields.
use borrow.Author.Rules.{rules}
use Rattle.line_fields.proofs.Fields.{two_fields}
use Rattle.line_fields.proofs.word_and_number.Goals as goal

pub returns : goal.returns
returns c = search (rules, two_fields)

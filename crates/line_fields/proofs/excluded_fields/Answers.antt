-- `line_fields::excluded_fields` prints three fields.
use borrow.Author.Rules.{rules}
use Rattle.line_fields.proofs.Fields.{excluded_fields}
use Rattle.line_fields.proofs.excluded_fields.Goals as goal

pub returns : goal.returns
returns c = search (rules, excluded_fields)

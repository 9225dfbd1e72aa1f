-- `line_fields::field_clause` prints a clause's number, if there is one.
use borrow.Author.Rules.{rules}
use Rattle.line_fields.proofs.Fields.{clause_none, clause_some}
use Rattle.line_fields.proofs.field_clause.Goals as goal

pub returns-in-None : goal.returns-in-None
returns-in-None c = search (rules, clause_none)

pub returns-in-Some : goal.returns-in-Some
returns-in-Some c = search (rules, clause_some)

-- `tracking::one_clause` adds a part's any clause if the one-of-name variable is older than the run.
use borrow.Author.Rules.{rules}
use Rattle.tracking.proofs.Clauses.{one_in_tables, one_none, one_newer, one_older}
use Rattle.tracking.proofs.one_clause.Goals as goal

pub variable-requires-clause-origin_value : goal.variable-requires-clause-origin_value
variable-requires-clause-origin_value c = search (rules, one_in_tables)

pub returns-in_default : goal.returns-in_default
returns-in_default c = search (rules, one_none)

pub returns-then-y-run : goal.returns-then-y-run
returns-then-y-run c = search (rules, one_older)

pub returns-else-y-run : goal.returns-else-y-run
returns-else-y-run c = search (rules, one_newer)

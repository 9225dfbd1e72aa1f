-- `condition_at` gives the row of a condition, and range 0 past the conditions.
use borrow.Author.Rules.{rules}
use Rattle.tables.proofs.Laws.{condition_in, condition_past}
use Rattle.tables.proofs.Tables.condition_at.Goals as goal

pub returns-then-condition-self : goal.returns-then-condition-self
returns-then-condition-self c = search (rules, condition_in)

pub returns-else-condition-self : goal.returns-else-condition-self
returns-else-condition-self c = search (rules, condition_past)

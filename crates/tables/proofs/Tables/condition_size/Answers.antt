-- `condition_size` gives the size in a condition's row, and zeros past the conditions.
use borrow.Author.Rules.{rules}
use Rattle.tables.proofs.Laws.{size_in, size_past}
use Rattle.tables.proofs.Tables.condition_size.Goals as goal

pub returns-then-condition-self : goal.returns-then-condition-self
returns-then-condition-self c = search (rules, size_in)

pub returns-else-condition-self : goal.returns-else-condition-self
returns-else-condition-self c = search (rules, size_past)

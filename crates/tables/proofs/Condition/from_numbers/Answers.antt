-- A condition by its numbers.
use borrow.Author.Rules.{rules}
use Rattle.tables.proofs.Laws.{and_by, range_by, or_by}
use Rattle.tables.proofs.Condition.from_numbers.Goals as goal

pub returns-in-0 : goal.returns-in-0
returns-in-0 c = search (rules, and_by)

pub returns-in-2 : goal.returns-in-2
returns-in-2 c = search (rules, range_by)

pub returns-in_default : goal.returns-in_default
returns-in_default c = search (rules, or_by)

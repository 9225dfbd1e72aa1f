-- `range_name` gives the first number of a range's row, and 0 past the ranges.
use borrow.Author.Rules.{rules}
use Rattle.tables.proofs.Laws.{range_in, range_past}
use Rattle.tables.proofs.Tables.range_name.Goals as goal

pub returns-then-range-self : goal.returns-then-range-self
returns-then-range-self c = search (rules, range_in)

pub returns-else-range-self : goal.returns-else-range-self
returns-else-range-self c = search (rules, range_past)

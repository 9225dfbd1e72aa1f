-- `part_name` gives the first number of a part's row, and 0 past the parts.
use borrow.Author.Rules.{rules}
use Rattle.tables.proofs.Laws.{part_in, part_past}
use Rattle.tables.proofs.Tables.part_name.Goals as goal

pub returns-then-part-self : goal.returns-then-part-self
returns-then-part-self c = search (rules, part_in)

pub returns-else-part-self : goal.returns-else-part-self
returns-else-part-self c = search (rules, part_past)

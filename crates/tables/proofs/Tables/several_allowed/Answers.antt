-- `several_allowed` gives bit 0 of the row of a name, and `false` past the names.
use borrow.Author.Rules.{rules}
use Rattle.tables.proofs.Laws.{name_in, bit_read, name_past}
use Rattle.tables.proofs.Tables.several_allowed.Goals as goal

pub returns-then-name-self : goal.returns-then-name-self
returns-then-name-self c = search (rules, name_in, bit_read)

pub returns-else-name-self : goal.returns-else-name-self
returns-else-name-self c = search (rules, name_past)

-- `entries::set_row` stores the two numbers of a row and changes no other row.
use borrow.Author.Rules.{rules}
use Rattle.entries.proofs.Laws.{set_row_is}
use Rattle.entries.proofs.set_row.Goals as goal

pub returns : goal.returns
returns c = search (rules, set_row_is)

-- `first_of_union` gives the first row of a union, idle rows passed over; or their number.
use borrow.Author.Rules.{rules}
use Rattle.index.proofs.Members.{no_row_law}
use Rattle.index.proofs.Index.first_of_union.Goals as goal

pub returns-else-union-self : goal.returns-else-union-self
returns-else-union-self c = search (rules, no_row_law)

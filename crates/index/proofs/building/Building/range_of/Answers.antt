-- `range_of` gives the range of a row.
use borrow.Author.Rules.{rules}
use Rattle.index.proofs.Members.{range_of_row}
use Rattle.index.proofs.building.Building.range_of.Goals as goal

pub returns : goal.returns
returns c = search (rules, range_of_row)

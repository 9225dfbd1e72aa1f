-- `owner_row` gives an owner's row by its number.
use borrow.Author.Rules.{rules}
use Rattle.index.proofs.Owners.{root_row_law, part_row_law}
use Rattle.index.proofs.chain.owner_row.Goals as goal

pub returns-in-Root : goal.returns-in-Root
returns-in-Root c = search (rules, root_row_law)

pub returns-in-Part : goal.returns-in-Part
returns-in-Part c = search (rules, part_row_law)

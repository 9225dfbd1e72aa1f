-- `same_row` compares the words of two rows.
use borrow.Author.Rules.{rules}
use Rattle.index.proofs.Members.{same_words}
use Rattle.index.proofs.building.Building.same_row.Goals as goal

pub returns : goal.returns
returns c = search (rules, same_words)

-- `number` gives a goal's number.
use borrow.Author.Rules.{rules}
use Rattle.requirement.proofs.Laws.{number_range, number_union}
use Rattle.requirement.proofs.Requirement.number.Goals as goal

pub returns-in-Single : goal.returns-in-Single
returns-in-Single c = search (rules, number_range)

pub returns-in-Union : goal.returns-in-Union
returns-in-Union c = search (rules, number_union)

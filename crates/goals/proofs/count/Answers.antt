-- `goals::count` gives how many candidates a goal has, or `most` if it has more.
use borrow.Author.Rules.{rules}
use Rattle.goals.proofs.Counting.{count_range, count_union}
use Rattle.goals.proofs.count.Goals as goal

pub returns-in-Single : goal.returns-in-Single
returns-in-Single c = search (rules, count_range)

pub returns-in-Union : goal.returns-in-Union
returns-in-Union c = search (rules, count_union)

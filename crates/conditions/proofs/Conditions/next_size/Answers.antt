-- `next_size` works the size of a joined condition out from those of its halves.
use borrow.Author.Rules.{rules}
use Rattle.conditions.proofs.Sizing.{next_leaf, next_and, next_or}
use Rattle.conditions.proofs.Conditions.next_size.Goals as goal

pub returns-in-Range : goal.returns-in-Range
returns-in-Range c = search (rules, next_leaf)

pub returns-in-And : goal.returns-in-And
returns-in-And c = search (rules, next_and)

pub returns-in-Or : goal.returns-in-Or
returns-in-Or c = search (rules, next_or)

-- `source_of` says where disjunct i of a condition comes from.
use borrow.Author.Rules.{rules}
use Rattle.conditions.proofs.Laws.{from_leaf, from_and, from_left, from_right}
use Rattle.conditions.proofs.Conditions.source_of.Goals as goal

pub returns-in-Range : goal.returns-in-Range
returns-in-Range c = search (rules, from_leaf)

pub returns-in-And : goal.returns-in-And
returns-in-And c = search (rules, from_and)

pub returns-then-i-count : goal.returns-then-i-count
returns-then-i-count c = search (rules, from_left)

pub returns-else-i-count : goal.returns-else-i-count
returns-else-i-count c = search (rules, from_right)

-- `variable_map::name` gives a known origin's variable, makes one where there is room, and says so where there is none.
use borrow.Author.Rules.{rules}
use Rattle.variable_map.proofs.Laws.{name_known, free, name_new, name_full}
use Rattle.variable_map.proofs.name.Goals as goal

pub returns-in-Some : goal.returns-in-Some
returns-in-Some c = search (rules, name_known)

pub returns-then-n-l : goal.returns-then-n-l
returns-then-n-l c = search (rules, name_new)

pub returns : goal.returns
returns c = search (rules, name_full)

pub push-count-requires-clause-free : goal.push-count-requires-clause-free
push-count-requires-clause-free c = search (rules, free)

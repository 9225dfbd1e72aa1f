-- `variable_map::start` makes the root's variable, the first.
use borrow.Author.Rules.{rules}
use Rattle.variable_map.proofs.Laws.{root_free, started}
use Rattle.variable_map.proofs.start.Goals as goal

pub push-requires-clause-free : goal.push-requires-clause-free
push-requires-clause-free c = search (rules, root_free)

pub returns : goal.returns
returns c = search (rules, started)

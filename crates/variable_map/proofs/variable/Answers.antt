-- `variable_map::variable` gives what the slot of an origin holds: its place.
use borrow.Author.Rules.{rules}
use Rattle.variable_map.proofs.Laws.{variable_is}
use Rattle.variable_map.proofs.variable.Goals as goal

pub returns : goal.returns
returns c = search (rules, variable_is)

-- `variable_map::push` stores a new origin's row and sets its slot; no other slot changes.
use borrow.Author.Rules.{rules}
use Rattle.variable_map.proofs.Laws.{pushed}
use Rattle.variable_map.proofs.push.Goals as goal

pub returns : goal.returns
returns c = search (rules, pushed)

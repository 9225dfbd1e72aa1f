-- `firing::disjuncts::Indices::new` carries no index.
use borrow.Author.Rules.{rules}
use Rattle.firing.proofs.Carried.{lists_none}
use Rattle.firing.proofs.disjuncts.Indices.new.Goals as goal

pub returns : goal.returns
returns c = search (rules, lists_none)

-- `firing::disjuncts::Indices::push` stores one index more.
use borrow.Author.Rules.{rules}
use Rattle.firing.proofs.Carried.{lists_more}
use Rattle.firing.proofs.disjuncts.Indices.push.Goals as goal

pub returns : goal.returns
returns c = search (rules, lists_more)

-- `push` stores one range more.
use borrow.Author.Rules.{rules}
use Rattle.conditions.proofs.Laws.{one_more}
use Rattle.conditions.proofs.Disjunct.push.Goals as goal

pub returns : goal.returns
returns c = search (rules, one_more)

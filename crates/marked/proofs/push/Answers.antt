-- `marked::push` lists one number more and sets its mark.
use borrow.Author.Rules.{rules}
use Rattle.marked.proofs.Laws.{push_is}
use Rattle.marked.proofs.push.Goals as goal

pub returns : goal.returns
returns c = search (rules, push_is)

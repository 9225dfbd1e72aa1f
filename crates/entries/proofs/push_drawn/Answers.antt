-- `entries::push_drawn` puts one entry behind those that were drawn.
use borrow.Author.Rules.{rules}
use Rattle.entries.proofs.Laws.{push_drawn_is}
use Rattle.entries.proofs.push_drawn.Goals as goal

pub returns : goal.returns
returns c = search (rules, push_drawn_is)

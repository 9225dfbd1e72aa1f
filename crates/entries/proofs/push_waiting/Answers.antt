-- `entries::push_waiting` puts one entry behind those that wait.
use borrow.Author.Rules.{rules}
use Rattle.entries.proofs.Laws.{push_waiting_is}
use Rattle.entries.proofs.push_waiting.Goals as goal

pub returns : goal.returns
returns c = search (rules, push_waiting_is)

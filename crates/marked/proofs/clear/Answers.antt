use borrow.Author.Rules.{rules}
use Rattle.marked.proofs.Laws.{clear_end}
use Rattle.marked.proofs.clear.Goals as goal

pub returns : goal.returns
returns c = search (rules, clear_end)

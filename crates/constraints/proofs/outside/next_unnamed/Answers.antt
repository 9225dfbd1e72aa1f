use borrow.Author.Rules.{rules}
use Rattle.constraints.proofs.OutsideLaws.{find_next}
use Rattle.constraints.proofs.outside.next_unnamed.Goals as goal

pub loop-p-preserved : goal.loop-p-preserved
loop-p-preserved c = search (rules, find_next)

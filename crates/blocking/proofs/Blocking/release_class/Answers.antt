use borrow.Author.Rules.{rules}
use Rattle.blocking.proofs.Releasing.{class_start, class_step, class_end}
use Rattle.blocking.proofs.Blocking.release_class.Goals as goal

pub loop-r-init : goal.loop-r-init
loop-r-init c = search (rules, class_start)

pub loop-r-preserved : goal.loop-r-preserved
loop-r-preserved c = search (rules, class_step)

pub returns : goal.returns
returns c = search (rules, class_end)

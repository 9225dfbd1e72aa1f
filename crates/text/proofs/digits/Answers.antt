use borrow.Author.Rules.{rules}
use Rattle.text.proofs.Laws.{digits_start, digits_step, digits_end}
use Rattle.text.proofs.digits.Goals as goal

pub loop-i-init : goal.loop-i-init
loop-i-init c = search (rules, digits_start)

pub loop-i-preserved : goal.loop-i-preserved
loop-i-preserved c = search (rules, digits_step)

pub returns : goal.returns
returns c = search (rules, digits_end)

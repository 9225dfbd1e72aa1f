use borrow.Author.Rules.{rules}
use Rattle.goals.proofs.ByDecisions.{unmade_start, unmade_found, unmade_step, unmade_end}
use Rattle.goals.proofs.some_decides.Goals as goal

pub loop-i-init : goal.loop-i-init
loop-i-init c = search (rules, unmade_start)

pub returns-then-decides_for : goal.returns-then-decides_for
returns-then-decides_for c = search (rules, unmade_found)

pub returns : goal.returns
returns c = search (rules, unmade_end)

pub loop-i-preserved : goal.loop-i-preserved
loop-i-preserved c = search (rules, unmade_step)

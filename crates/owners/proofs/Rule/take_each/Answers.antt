use borrow.Author.Rules.{rules}
use Rattle.owners.proofs.Rules.{ruled_start, ruled_step, ruled_end}
use Rattle.owners.proofs.Along.{ruled_along}
use Rattle.owners.proofs.Rule.take_each.Goals as goal

pub loop-i-init : goal.loop-i-init
loop-i-init c = search (rules, ruled_along, ruled_start)

pub loop-i-preserved : goal.loop-i-preserved
loop-i-preserved c = search (rules, ruled_along, ruled_step)

pub returns : goal.returns
returns c = ruled_end _ _ _ _ c.loop-i.invariant c.loop-i-test.false (search rules)

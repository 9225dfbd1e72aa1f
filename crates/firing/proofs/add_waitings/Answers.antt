use borrow.Author.Rules.{rules}
use Rattle.firing.proofs.Waitings.{waited_start, waited_step, waited_end}
use Rattle.firing.proofs.add_waitings.Goals as goal

pub loop-index-init : goal.loop-index-init
loop-index-init c = search (rules, waited_start)

pub loop-index-preserved : goal.loop-index-preserved
loop-index-preserved c = waited_step c.loop-index.invariant c.loop-index-test.true (search rules) c.add_waiting.ensures

pub returns : goal.returns
returns c = waited_end c.loop-index.invariant c.loop-index-test.false

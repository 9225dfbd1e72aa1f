use Rattle.naming.proofs.Loops.{pass_start, hand_step, hand_end}
use Rattle.naming.proofs.all_candidates.Goals as goal

pub loop-j-init : goal.loop-j-init
loop-j-init c = pass_start c.requires.good

pub loop-j-preserved : goal.loop-j-preserved
loop-j-preserved c = hand_step c.loop-j.invariant c.requires.good c.requires.marked _ c.listed-r.ensures c.loop-j-test.true c.range_candidates.ensures

pub returns : goal.returns
returns c = hand_end c.loop-j.invariant c.requires.marked c.loop-j-test.false

use Rattle.firing.proofs.Judging.{listing_take, listing_pass, listing_end}
use Rattle.firing.proofs.disjuncts.Judgement.flagged.Goals as goal
use Rattle.firing.proofs.disjuncts.Judgement.flagged.Goals.{then-self-i, else-self-i}

pub loop-i-preserved : goal.loop-i-preserved
loop-i-preserved c =
    elim c.if-self-i.branch [
      | then-self-i w ↦ listing_take c.loop-i.invariant c.loop-i-test.true w.if-self-i.true w.push.ensures w.indices-is
      | else-self-i w ↦ listing_pass c.loop-i.invariant c.loop-i-test.true w.if-self-i.false w.indices-is
    ]

pub returns : goal.returns
returns c = listing_end c.loop-i.invariant c.loop-i-test.false

-- The proof of the cycle of calls {condition_verdict}: it gives the verdict of condition x. The measure is x: a half has a smaller number.
use Rattle.blocking.proofs.Blocking.+condition_verdict.Given as goal

abbrev pub decreases-condition_verdict : goal.decreases-condition_verdict
decreases-condition_verdict l = l.x

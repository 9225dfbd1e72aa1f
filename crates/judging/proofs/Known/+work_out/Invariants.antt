-- The proof of the cycle of calls {work_out}: it works out condition x. The measure is x: a half has a smaller number.
use Rattle.judging.proofs.Known.+work_out.Given as goal

abbrev pub decreases-work_out : goal.decreases-work_out
decreases-work_out l = l.x

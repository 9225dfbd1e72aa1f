-- `constraints::constrain_few` adds a clause for each non-matching part; where every part matches there is none.
use Rattle.constraints.proofs.Serving.{none_constrained}
use Rattle.constraints.proofs.constrain_few.Goals as goal

pub returns-else-count-ne0 : goal.returns-else-count-ne0
returns-else-count-ne0 c = none_constrained _ _ _ _ c.requires.counted c.if-count-ne0.false

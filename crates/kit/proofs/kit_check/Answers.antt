-- `kit::kit_check` answers as `check_answer` says, and each of the six areas is zero afterwards.
use Rattle.kit.proofs.Checking.{served}
use Rattle.kit.proofs.kit_check.Goals as goal

pub returns : goal.returns
returns c = served _ _ _ _ _ _ _ _ _ _ _ _ _ _ _ _ _ _ _ c.lent.ensures c.clear_three.ensures.0 c.clear_three.ensures.1 c.clear_three.ensures.2 c.check_within.ensures

-- `kit::kit_run` answers and writes as the definitions say, and each of the six work areas is zero afterwards.
use Rattle.checking.proofs.Areas.{still_zeroed}
use Rattle.kit.proofs.Running.{ran}
use Rattle.kit.proofs.kit_run.Goals as goal

pub returns : goal.returns
returns c = ran _ _ _ _ _ _ _ _ _ _ _ _ _ _ _ _ _ _ _ _ _ c.lent.ensures c.run_within-answer.ensures
    (still_zeroed c.clear_three.ensures.0 c.run_within-answer.auto.marks)
    (still_zeroed c.clear_three.ensures.1 c.run_within-answer.auto.unions)
    (still_zeroed c.clear_three.ensures.2 c.run_within-answer.auto.t)
    (still_zeroed c.clear_three-2.ensures.0 c.run_within-answer.auto.clauses)
    (still_zeroed c.clear_three-2.ensures.1 c.run_within-answer.auto.s)
    (still_zeroed c.clear_three-2.ensures.2 c.run_within-answer.auto.w)

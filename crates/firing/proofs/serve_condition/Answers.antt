-- `firing::serve_condition` lets the disjuncts wait that do not hold, and fires the requirement for the others, if there are any.
use mathlib.Core.Bool.{true, false}
use Rattle.firing.proofs.Judging.{judged_listed}
use Rattle.firing.proofs.Served.{condition_waits, condition_fires}
use Rattle.firing.proofs.serve_condition.Goals as goal

pub returns-then-fired-eq0 : goal.returns-then-fired-eq0
returns-then-fired-eq0 c = condition_waits _ _
    (judged_listed c.judge-judgement.ensures false c.flagged-stay.ensures)
    (judged_listed c.judge-judgement.ensures true c.flagged-fired.ensures)
    (rw c.as_slice.ensures at c.add_waitings.ensures)
    c.if-fired-eq0.true

pub returns : goal.returns
returns c = condition_fires _ _
    (judged_listed c.judge-judgement.ensures false c.flagged-stay.ensures)
    (judged_listed c.judge-judgement.ensures true c.flagged-fired.ensures)
    (rw c.as_slice.ensures at c.add_waitings.ensures)
    c.if-fired-eq0.false
    c.fire.ensures

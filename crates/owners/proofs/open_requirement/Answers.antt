-- `owners::open_requirement` opens the names of an owner's unconditional requirement.
use Rattle.owners.proofs.Records.{required_goal, open_other, open_conditional, open_own}
use Rattle.owners.proofs.open_requirement.Goals as goal
use Rattle.owners.proofs.open_requirement.Goals.{else-eq-via-else-eq, else-eq-via-then-eq+else-is_none}

pub returns-then-is_none : goal.returns-then-is_none
returns-then-is_none c = open_own _ _ _ _ _ _ c.requirement_at-it.ensures _ _ c.eq.ensures c.if-eq.true c.is_none.ensures c.if-is_none.true c.open_goal.ensures

pub returns-else-eq : goal.returns-else-eq
returns-else-eq c =
    elim c.else-eq.branch [
      | else-eq-via-else-eq w ↦ open_other _ _ _ _ _ _ c.requirement_at-it.ensures _ _ c.eq.ensures w.if-eq.false
      | else-eq-via-then-eq+else-is_none w ↦ open_conditional _ _ _ _ _ _ c.requirement_at-it.ensures _ _ c.eq.ensures w.is_none.ensures w.if-is_none.false
    ]

pub open_goal-requires-clause-goal_given : goal.open_goal-requires-clause-goal_given
open_goal-requires-clause-goal_given c = required_goal _ _ _ _ _ _ c.requirement_at-it.ensures c.args.catalogue.now.formed c.requires.q_lt_requirements

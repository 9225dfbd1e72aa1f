-- `firing::fire` opens the names of a requirement, and queues its task.
use Rattle.index.proofs.Given.{catalogued}
use Rattle.firing.proofs.Served.{fired}
use Rattle.firing.proofs.Required.{goal_given}
use Rattle.firing.proofs.fire.Goals as goal

pub open_goal-requires-clause-goal_given : goal.open_goal-requires-clause-goal_given
open_goal-requires-clause-goal_given c = goal_given _ _ _ _ _ _ c.requirement_at-it.ensures (catalogued c.args.catalogue.now) c.requires.q_lt_requirements.0

pub returns : goal.returns
returns c = let it = c.requirement_at-it.ensures in
    fired _ _ _ _ _ _ _ it c.open_goal.ensures c.queue.ensures

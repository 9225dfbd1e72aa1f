-- `handling::serve_requirement` serves a requirement's task.
use mathlib.Core.Path.{refl}
use Rattle.index.proofs.Given.{catalogued}
use Rattle.encoder.proofs.Does.{long_then}
use Rattle.firing.proofs.Required.{goal_given}
use Rattle.goals.proofs.Released.{good_gathered}
use Rattle.handling.proofs.Steps.{hand_later}
use Rattle.handling.proofs.Serving.{gathered, requirement_served}
use Rattle.handling.proofs.Settled.{settled_gathered}
use Rattle.handling.proofs.serve_requirement.Goals as goal

pub gather-ranges-requires-clause-goal_given : goal.gather-ranges-requires-clause-goal_given
gather-ranges-requires-clause-goal_given c = goal_given _ _ _ _ _ _ c.requirement_at-it.ensures (catalogued c.args.catalogue.now) c.requires.q_lt_requirements.0

pub handle-requires-clause-good : goal.handle-requires-clause-good
handle-requires-clause-good c = good_gathered c.gather-ranges.ensures c.requires.good

pub handle-requires-clause-long_enough : goal.handle-requires-clause-long_enough
handle-requires-clause-long_enough c = long_then c.gather-ranges.ensures.written.limits refl c.requires.long_enough

pub handle-requires-clause-at_hand : goal.handle-requires-clause-at_hand
handle-requires-clause-at_hand c = gathered _ _ _ _ _ _ c.requirement_at-it.ensures c.gather-ranges.ensures

pub handle-requires-clause-settles : goal.handle-requires-clause-settles
handle-requires-clause-settles c = λ e. settled_gathered c.gather-ranges.ensures (c.requires.settles e)

pub release-requires : goal.release-requires
release-requires c = record {
  marked = (hand_later c.handle.ensures (good_gathered c.gather-ranges.ensures c.requires.good) (gathered _ _ _ _ _ _ c.requirement_at-it.ensures c.gather-ranges.ensures)).marked;
}

pub returns : goal.returns
returns c = requirement_served _ _ _ _ _ c.requires.marked c.gather-ranges.ensures c.handle.ensures c.release.ensures c.requires.settles

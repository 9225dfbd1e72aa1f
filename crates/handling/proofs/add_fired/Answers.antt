-- `handling::add_fired` adds the requires clause of a fired disjunct, if there is room for its literals.
use mathlib.Core.Path.{refl}
use Rattle.encoder.proofs.Does.{good_with_then, long_then}
use Rattle.storing.proofs.Adding.{good_can_add}
use Rattle.condition_literals.proofs.Pushing.{pushes_good, pushes_do}
use Rattle.handling.proofs.Owning.{its_goal}
use Rattle.handling.proofs.Adding.{fired_named, fired_added, fired_over}
use Rattle.handling.proofs.Steps.{hand_after}
use Rattle.handling.proofs.add_fired.Goals as goal

pub returns-then-state-count : goal.returns-then-state-count
returns-then-state-count c = fired_over _ c.requires.named c.disjunct_literals-count.ensures _ refl refl (pushes_good c.disjunct_literals-count.ensures c.requires.good.state).literals c.if-state-count.true c.filled-state.ensures

pub returns : goal.returns
returns c = fired_added _ c.requires.named c.disjunct_literals-count.ensures _ (its_goal _ _ _ _ _ _ c.requirement_at-it.ensures) c.owner_variable-x.ensures (pushes_good c.disjunct_literals-count.ensures c.requires.good.state).literals c.if-state-count.false c.rest_false-all.ensures c.add_requires.ensures.added

pub owner_variable-x-requires-clause-good_state : goal.owner_variable-x-requires-clause-good_state
owner_variable-x-requires-clause-good_state c = pushes_good c.disjunct_literals-count.ensures c.requires.good.state

pub owner_variable-x-requires-clause-named : goal.owner_variable-x-requires-clause-named
owner_variable-x-requires-clause-named c = fired_named _ c.requires.named c.disjunct_literals-count.ensures

pub rest_false-all-requires-clause-good_state : goal.rest_false-all-requires-clause-good_state
rest_false-all-requires-clause-good_state c = pushes_good c.disjunct_literals-count.ensures c.requires.good.state

pub rest_false-all-requires-clause-at_hand : goal.rest_false-all-requires-clause-at_hand
rest_false-all-requires-clause-at_hand c = hand_after (pushes_do c.disjunct_literals-count.ensures) c.requires.good c.requires.at_hand

pub rest_false-all-requires-clause-named : goal.rest_false-all-requires-clause-named
rest_false-all-requires-clause-named c = fired_named _ c.requires.named c.disjunct_literals-count.ensures

pub add_requires-requires-clause-can_add : goal.add_requires-requires-clause-can_add
add_requires-requires-clause-can_add c = good_can_add (good_with_then (pushes_do c.disjunct_literals-count.ensures) c.requires.good) (long_then c.disjunct_literals-count.ensures.written.limits refl c.requires.long_enough)

-- `handling::handle_conditional` names what the fired disjuncts need and adds their clauses, unless it is full.
use mathlib.Core.Path.{refl}
use Rattle.encoder.proofs.Does.{state_then_clauses_do, good_with_then, long_then}
use Rattle.encoder.proofs.Did.{told_full, told_going}
use Rattle.handling.proofs.Steps.{hand_after, named_after, fired_after, conditional_full}
use Rattle.handling.proofs.handle_conditional.Goals as goal

pub returns-then-state-ne0 : goal.returns-then-state-ne0
returns-then-state-ne0 c = conditional_full _ _ c.name_disjuncts.ensures _ (told_full c.if-state-ne0.true)

pub returns : goal.returns
returns c = state_then_clauses_do c.name_disjuncts.ensures c.add_all_fired.ensures

pub add_all_fired-requires-clause-good : goal.add_all_fired-requires-clause-good
add_all_fired-requires-clause-good c = good_with_then c.name_disjuncts.ensures c.requires.good

pub add_all_fired-requires-clause-at_hand : goal.add_all_fired-requires-clause-at_hand
add_all_fired-requires-clause-at_hand c = hand_after c.name_disjuncts.ensures c.requires.good c.requires.at_hand

pub add_all_fired-requires-clause-named : goal.add_all_fired-requires-clause-named
add_all_fired-requires-clause-named c = named_after c.name_disjuncts.ensures c.requires.good (told_going c.if-state-ne0.false) c.requires.named

pub add_all_fired-requires-clause-fired_known : goal.add_all_fired-requires-clause-fired_known
add_all_fired-requires-clause-fired_known c = fired_after _ _ c.name_disjuncts.ensures c.requires.good (told_going c.if-state-ne0.false)

pub add_all_fired-requires-clause-long_enough : goal.add_all_fired-requires-clause-long_enough
add_all_fired-requires-clause-long_enough c = long_then c.name_disjuncts.ensures.limits refl c.requires.long_enough

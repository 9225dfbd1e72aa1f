-- `handling::handle` names the owner and the candidates and adds the clauses, unless it is full.
use Rattle.index.proofs.Given.{catalogued}
use Rattle.encoder.proofs.Steps.{good_alone}
use Rattle.encoder.proofs.Does.{at_catalogue, good_then}
use Rattle.encoder.proofs.Did.{told_full, told_going}
use Rattle.handling.proofs.Owning.{owner_origin_law, owner_in_tables, without, with_one}
use Rattle.handling.proofs.Steps.{hand_after, handle_good, handle_long, handle_named, handle_hand, handled_full, handled_unconditional, handled_conditional}
use Rattle.handling.proofs.handle.Goals as goal

pub name_variable-requires-clause-o_value : goal.name_variable-requires-clause-o_value
name_variable-requires-clause-o_value c = owner_in_tables _ _ _ _ _ _ c.requirement_at-it.ensures _ c.owner_origin.ensures (catalogued c.args.catalogue.now) c.requires.q_lt_requirements.0

pub name_candidates-requires-clause-good : goal.name_candidates-requires-clause-good
name_candidates-requires-clause-good c = good_then (at_catalogue c.name_variable.ensures) (good_alone c.requires.good)

pub name_candidates-requires-clause-marked : goal.name_candidates-requires-clause-marked
name_candidates-requires-clause-marked c = (hand_after (at_catalogue c.name_variable.ensures) c.requires.good c.requires.at_hand).marked

pub returns-then-state-ne0 : goal.returns-then-state-ne0
returns-then-state-ne0 c = handled_full _ _ (owner_origin_law _ _ _ _ _ _ c.requirement_at-it.ensures _ c.owner_origin.ensures) c.name_variable.ensures (hand_after (at_catalogue c.name_variable.ensures) c.requires.good c.requires.at_hand) c.name_candidates.ensures _ _ (told_full c.if-state-ne0.true)

pub returns-in-None : goal.returns-in-None
returns-in-None c = handled_unconditional _ _ (owner_origin_law _ _ _ _ _ _ c.requirement_at-it.ensures _ c.owner_origin.ensures) c.name_variable.ensures (hand_after (at_catalogue c.name_variable.ensures) c.requires.good c.requires.at_hand) c.name_candidates.ensures _ _ (without _ _ _ _ _ _ c.requirement_at-it.ensures c.in-None.is) c.handle_unconditional.ensures

pub returns-in-Some : goal.returns-in-Some
returns-in-Some c = handled_conditional _ _ (owner_origin_law _ _ _ _ _ _ c.requirement_at-it.ensures _ c.owner_origin.ensures) c.name_variable.ensures (hand_after (at_catalogue c.name_variable.ensures) c.requires.good c.requires.at_hand) c.name_candidates.ensures _ _ (with_one _ _ _ _ _ _ c.requirement_at-it.ensures _ c.in-Some.is) c.handle_conditional.ensures

pub handle_unconditional-requires-clause-good : goal.handle_unconditional-requires-clause-good
handle_unconditional-requires-clause-good c = handle_good _ _ (owner_origin_law _ _ _ _ _ _ c.requirement_at-it.ensures _ c.owner_origin.ensures) c.name_variable.ensures (hand_after (at_catalogue c.name_variable.ensures) c.requires.good c.requires.at_hand) c.name_candidates.ensures c.requires.good

pub handle_unconditional-requires-clause-q_lt_requirements : goal.handle_unconditional-requires-clause-q_lt_requirements
handle_unconditional-requires-clause-q_lt_requirements c = (c.requires.q_lt_requirements.0, c.requires.q_lt_requirements.1, (without _ _ _ _ _ _ c.requirement_at-it.ensures c.in-None.is))

pub handle_unconditional-requires-clause-at_hand : goal.handle_unconditional-requires-clause-at_hand
handle_unconditional-requires-clause-at_hand c = handle_hand _ _ (owner_origin_law _ _ _ _ _ _ c.requirement_at-it.ensures _ c.owner_origin.ensures) c.name_variable.ensures (hand_after (at_catalogue c.name_variable.ensures) c.requires.good c.requires.at_hand) c.name_candidates.ensures c.requires.good c.requires.at_hand

pub handle_unconditional-requires-clause-named : goal.handle_unconditional-requires-clause-named
handle_unconditional-requires-clause-named c = handle_named _ _ (owner_origin_law _ _ _ _ _ _ c.requirement_at-it.ensures _ c.owner_origin.ensures) c.name_variable.ensures (hand_after (at_catalogue c.name_variable.ensures) c.requires.good c.requires.at_hand) c.name_candidates.ensures c.requires.good c.requires.settles (told_going c.if-state-ne0.false)

pub handle_conditional-requires-clause-good : goal.handle_conditional-requires-clause-good
handle_conditional-requires-clause-good c = handle_good _ _ (owner_origin_law _ _ _ _ _ _ c.requirement_at-it.ensures _ c.owner_origin.ensures) c.name_variable.ensures (hand_after (at_catalogue c.name_variable.ensures) c.requires.good c.requires.at_hand) c.name_candidates.ensures c.requires.good

pub handle_conditional-requires-clause-q_lt_requirements : goal.handle_conditional-requires-clause-q_lt_requirements
handle_conditional-requires-clause-q_lt_requirements c = (c.requires.q_lt_requirements.0, c.requires.q_lt_requirements.1, (with_one _ _ _ _ _ _ c.requirement_at-it.ensures _ c.in-Some.is))

pub handle_conditional-requires-clause-at_hand : goal.handle_conditional-requires-clause-at_hand
handle_conditional-requires-clause-at_hand c = handle_hand _ _ (owner_origin_law _ _ _ _ _ _ c.requirement_at-it.ensures _ c.owner_origin.ensures) c.name_variable.ensures (hand_after (at_catalogue c.name_variable.ensures) c.requires.good c.requires.at_hand) c.name_candidates.ensures c.requires.good c.requires.at_hand

pub handle_conditional-requires-clause-named : goal.handle_conditional-requires-clause-named
handle_conditional-requires-clause-named c = handle_named _ _ (owner_origin_law _ _ _ _ _ _ c.requirement_at-it.ensures _ c.owner_origin.ensures) c.name_variable.ensures (hand_after (at_catalogue c.name_variable.ensures) c.requires.good c.requires.at_hand) c.name_candidates.ensures c.requires.good c.requires.settles (told_going c.if-state-ne0.false)

pub handle_unconditional-requires-clause-long_enough : goal.handle_unconditional-requires-clause-long_enough
handle_unconditional-requires-clause-long_enough c = handle_long _ _ (owner_origin_law _ _ _ _ _ _ c.requirement_at-it.ensures _ c.owner_origin.ensures) c.name_variable.ensures (hand_after (at_catalogue c.name_variable.ensures) c.requires.good c.requires.at_hand) c.name_candidates.ensures _ c.requires.long_enough

pub handle_conditional-requires-clause-long_enough : goal.handle_conditional-requires-clause-long_enough
handle_conditional-requires-clause-long_enough c = handle_long _ _ (owner_origin_law _ _ _ _ _ _ c.requirement_at-it.ensures _ c.owner_origin.ensures) c.name_variable.ensures (hand_after (at_catalogue c.name_variable.ensures) c.requires.good c.requires.at_hand) c.name_candidates.ensures _ c.requires.long_enough

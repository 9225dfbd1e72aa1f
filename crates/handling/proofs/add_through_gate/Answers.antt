-- `handling::add_through_gate` names the gate, adds its clause if it is new, and then the one that opens it, unless it is full.
use Rattle.index.proofs.Given.{catalogued}
use borrow.Author.Rules.{rules}
use mathlib.Core.Path.{refl}
use Rattle.encoder.proofs.Does.{at_catalogue, good_with_then, good_with_later, long_then}
use Rattle.storing.proofs.Adding.{good_can_add}
use Rattle.encoder.proofs.Did.{told_full, told_going}
use Rattle.handling.proofs.Owning.{found, gate_origin, gate_in_tables}
use Rattle.handling.proofs.Adding.{new_gate, gate_known, through_full, through_added}
use Rattle.handling.proofs.Steps.{hand_after, named_after}
use Rattle.handling.proofs.add_through_gate.Goals as goal

pub variable-requires-clause-origin_value : goal.variable-requires-clause-origin_value
variable-requires-clause-origin_value c = gate_in_tables _ _ _ _ _ _ c.requirement_at-it.ensures (catalogued c.args.catalogue.now) c.requires.q_lt_requirements.0

pub name_variable-requires-clause-o_value : goal.name_variable-requires-clause-o_value
name_variable-requires-clause-o_value c = gate_in_tables _ _ _ _ _ _ c.requirement_at-it.ensures (catalogued c.args.catalogue.now) c.requires.q_lt_requirements.0

pub returns-then-state-ne0 : goal.returns-then-state-ne0
returns-then-state-ne0 c = through_full _ _ _ _ _ (new_gate _ _ _ _ _ (gate_origin _ _ _ _ _ _ c.requirement_at-it.ensures) c.is_none-new.ensures c.variable.ensures) (gate_origin _ _ _ _ _ _ c.requirement_at-it.ensures) c.name_variable.ensures (told_full c.if-state-ne0.true)

pub returns : goal.returns
returns c = through_added _ _ _ _ _ (new_gate _ _ _ _ _ (gate_origin _ _ _ _ _ _ c.requirement_at-it.ensures) c.is_none-new.ensures c.variable.ensures) (gate_origin _ _ _ _ _ _ c.requirement_at-it.ensures) c.name_variable.ensures (told_going c.if-state-ne0.false) (found c.name_variable.new.state _ (gate_origin _ _ _ _ _ _ c.requirement_at-it.ensures) c.variable_of-g.ensures (good_with_then (at_catalogue c.name_variable.ensures) c.requires.good).state.mapped (gate_known _ _ (gate_origin _ _ _ _ _ _ c.requirement_at-it.ensures) c.name_variable.ensures c.requires.good (told_going c.if-state-ne0.false))) c.owner_variable-x.ensures c.add_gate.ensures c.add_any_gate.ensures

pub variable_of-g-requires-clause-mapped : goal.variable_of-g-requires-clause-mapped
variable_of-g-requires-clause-mapped c = (good_with_then (at_catalogue c.name_variable.ensures) c.requires.good).state.mapped

pub variable_of-g-requires-clause-o_value : goal.variable_of-g-requires-clause-o_value
variable_of-g-requires-clause-o_value c = gate_in_tables _ _ _ _ _ _ c.requirement_at-it.ensures (catalogued c.args.catalogue.now) c.requires.q_lt_requirements.0

pub owner_variable-x-requires-clause-good_state : goal.owner_variable-x-requires-clause-good_state
owner_variable-x-requires-clause-good_state c = (good_with_then (at_catalogue c.name_variable.ensures) c.requires.good).state

pub owner_variable-x-requires-clause-named : goal.owner_variable-x-requires-clause-named
owner_variable-x-requires-clause-named c = named_after (at_catalogue c.name_variable.ensures) c.requires.good (told_going c.if-state-ne0.false) c.requires.named

pub add_gate-requires-clause-good : goal.add_gate-requires-clause-good
add_gate-requires-clause-good c = (good_with_then (at_catalogue c.name_variable.ensures) c.requires.good)

pub add_gate-requires-clause-at_hand : goal.add_gate-requires-clause-at_hand
add_gate-requires-clause-at_hand c = hand_after (at_catalogue c.name_variable.ensures) c.requires.good c.requires.at_hand

pub add_gate-requires-clause-named : goal.add_gate-requires-clause-named
add_gate-requires-clause-named c = named_after (at_catalogue c.name_variable.ensures) c.requires.good (told_going c.if-state-ne0.false) c.requires.named

pub add_gate-requires-clause-found : goal.add_gate-requires-clause-found
add_gate-requires-clause-found c = (found c.name_variable.new.state _ (gate_origin _ _ _ _ _ _ c.requirement_at-it.ensures) c.variable_of-g.ensures (good_with_then (at_catalogue c.name_variable.ensures) c.requires.good).state.mapped (gate_known _ _ (gate_origin _ _ _ _ _ _ c.requirement_at-it.ensures) c.name_variable.ensures c.requires.good (told_going c.if-state-ne0.false)))

pub add_any_gate-requires-clause-can_add : goal.add_any_gate-requires-clause-can_add
add_any_gate-requires-clause-can_add c = good_can_add (good_with_later c.add_gate.ensures (good_with_then (at_catalogue c.name_variable.ensures) c.requires.good)) (long_then c.add_gate.ensures.limits (search rules) (long_then c.name_variable.ensures.limits refl c.requires.long_enough))

pub add_any_gate-requires-clause-number_nonzero : goal.add_any_gate-requires-clause-number_nonzero
add_any_gate-requires-clause-number_nonzero c = rw c.add_gate.ensures.limits (c.requires.q_lt_requirements.1, (found c.name_variable.new.state _ (gate_origin _ _ _ _ _ _ c.requirement_at-it.ensures) c.variable_of-g.ensures (good_with_then (at_catalogue c.name_variable.ensures) c.requires.good).state.mapped (gate_known _ _ (gate_origin _ _ _ _ _ _ c.requirement_at-it.ensures) c.name_variable.ensures c.requires.good (told_going c.if-state-ne0.false))).low, c.owner_variable-x.ensures.low)

pub add_gate-requires-clause-long_enough : goal.add_gate-requires-clause-long_enough
add_gate-requires-clause-long_enough c = long_then c.name_variable.ensures.limits refl c.requires.long_enough

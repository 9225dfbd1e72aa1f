-- `constraints::add_violation` adds the clauses of a violation that is new, and the owner's.
use borrow.Author.Rules.{rules}
use Rattle.encoder.proofs.Does.{good_with_later, long_then}
use Rattle.storing.proofs.Adding.{good_can_add}
use Rattle.constraints.proofs.Steps.{looked_is, looked_below, non_matching_known, violation_new, violation_old}
use Rattle.constraints.proofs.Owners.{owner_fits, violation_fits}
use Rattle.constraints.proofs.add_violation.Goals as goal
use Rattle.constraints.proofs.add_violation.Goals.{then-new, else-new}

pub variable_of-y-requires-clause-o_value : goal.variable_of-y-requires-clause-o_value
variable_of-y-requires-clause-o_value c = violation_fits _ (search rules)

pub variable_of-x-requires-clause-o_value : goal.variable_of-x-requires-clause-o_value
variable_of-x-requires-clause-o_value c = owner_fits _ _ c.owner_origin.ensures c.requires.number_nonzero.2

pub add_outs-requires-clause-number_nonzero : goal.add_outs-requires-clause-number_nonzero
add_outs-requires-clause-number_nonzero c = (c.requires.number_nonzero.0, looked_below c.args.state.now c.requires.good.state.mapped c.variable_of-y.ensures c.requires.owner_known.1, c.requires.number_nonzero.1)

pub add_outs-requires-clause-known_unless_full : goal.add_outs-requires-clause-known_unless_full
add_outs-requires-clause-known_unless_full c = non_matching_known _ _ c.requires.known_unless_full

pub add_aux_owner-requires-clause-can_add : goal.add_aux_owner-requires-clause-can_add
add_aux_owner-requires-clause-can_add c = elim c.if-new.branch [
  | then-new w ↦ rw (w.state-is, w.clauses-is) (good_can_add (good_with_later w.add_outs.ensures c.requires.good) (long_then w.add_outs.ensures.limits w.add_outs.auto.clauses c.requires.long_enough))
  | else-new w ↦ rw (w.state-is, w.clauses-is) (good_can_add c.requires.good c.requires.long_enough)
]

pub returns : goal.returns
returns c = elim c.if-new.branch [
  | then-new w ↦
      violation_new _ _ _ (looked_is _ c.owner_origin.ensures c.variable_of-x.ensures c.requires.owner_known.0) (c.variable_of-y.ensures.is c.requires.owner_known.1) w.if-new.true w.add_outs.ensures
      (rw (w.state-is, w.clauses-is) at c.add_aux_owner.ensures.added)
  | else-new w ↦
      violation_old _ _ _ (looked_is _ c.owner_origin.ensures c.variable_of-x.ensures c.requires.owner_known.0) (c.variable_of-y.ensures.is c.requires.owner_known.1) w.if-new.false
      (rw (w.state-is, w.clauses-is) at c.add_aux_owner.ensures.added)
]

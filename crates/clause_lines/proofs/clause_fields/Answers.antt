-- `clause_lines::clause_fields` prints the fields of a stored clause.
use borrow.Author.Rules.{rules}
use Rattle.clause_lines.proofs.Clauses.{
  stored_within,
  requires_known,
  gated_known,
  install_fields,
  requires_fields,
  gated_fields,
  excluded_fields,
  unknown_fields,
  constrains_fields,
  forbid_fields,
  out_fields,
  owner_fields,
  lock_fields,
  gate_fields,
  one_fields,
}
use Rattle.clause_lines.proofs.Copying.{stand_still}
use Rattle.clause_lines.proofs.clause_fields.Goals as goal

pub conditional_head-requires : goal.conditional_head-requires
conditional_head-requires c = search (rules, stored_within)

pub candidate_literals-requires-clause-all_known : goal.candidate_literals-requires-clause-all_known
candidate_literals-requires-clause-all_known c = search (rules, requires_known)

pub candidate_literals-requires-in-Gated-clause-all_known : goal.candidate_literals-requires-in-Gated-clause-all_known
candidate_literals-requires-in-Gated-clause-all_known c = search (rules, gated_known)

pub candidate_literals-requires-clause-spans : goal.candidate_literals-requires-clause-spans
candidate_literals-requires-clause-spans c = search (rules, stand_still)

pub candidate_literals-requires-in-Gated-clause-spans : goal.candidate_literals-requires-in-Gated-clause-spans
candidate_literals-requires-in-Gated-clause-spans c = search (rules, stand_still)

pub returns-in-Install-clause-wrote : goal.returns-in-Install-clause-wrote
returns-in-Install-clause-wrote c = search (rules, install_fields)

pub returns-in-Install-clause-spans_2 : goal.returns-in-Install-clause-spans_2
returns-in-Install-clause-spans_2 c = search (rules, stand_still)

pub returns-in-Requires-clause-wrote : goal.returns-in-Requires-clause-wrote
returns-in-Requires-clause-wrote c = search (rules, requires_fields)

pub returns-in-Gated-clause-wrote : goal.returns-in-Gated-clause-wrote
returns-in-Gated-clause-wrote c = search (rules, gated_fields)

pub returns-in-Excluded-clause-wrote : goal.returns-in-Excluded-clause-wrote
returns-in-Excluded-clause-wrote c = search (rules, excluded_fields)

pub returns-in-Excluded-clause-spans_2 : goal.returns-in-Excluded-clause-spans_2
returns-in-Excluded-clause-spans_2 c = search (rules, stand_still)

pub returns-in-Unknown-clause-wrote : goal.returns-in-Unknown-clause-wrote
returns-in-Unknown-clause-wrote c = search (rules, unknown_fields)

pub returns-in-Unknown-clause-spans_2 : goal.returns-in-Unknown-clause-spans_2
returns-in-Unknown-clause-spans_2 c = search (rules, stand_still)

pub returns-in-Constrains-clause-wrote : goal.returns-in-Constrains-clause-wrote
returns-in-Constrains-clause-wrote c = search (rules, constrains_fields)

pub returns-in-Constrains-clause-spans_2 : goal.returns-in-Constrains-clause-spans_2
returns-in-Constrains-clause-spans_2 c = search (rules, stand_still)

pub returns-in-Forbid-clause-wrote : goal.returns-in-Forbid-clause-wrote
returns-in-Forbid-clause-wrote c = search (rules, forbid_fields)

pub returns-in-Forbid-clause-spans_2 : goal.returns-in-Forbid-clause-spans_2
returns-in-Forbid-clause-spans_2 c = search (rules, stand_still)

pub returns-in-AuxOut-clause-wrote : goal.returns-in-AuxOut-clause-wrote
returns-in-AuxOut-clause-wrote c = search (rules, out_fields)

pub returns-in-AuxOut-clause-spans_2 : goal.returns-in-AuxOut-clause-spans_2
returns-in-AuxOut-clause-spans_2 c = search (rules, stand_still)

pub returns-in-AuxOwner-clause-wrote : goal.returns-in-AuxOwner-clause-wrote
returns-in-AuxOwner-clause-wrote c = search (rules, owner_fields)

pub returns-in-AuxOwner-clause-spans_2 : goal.returns-in-AuxOwner-clause-spans_2
returns-in-AuxOwner-clause-spans_2 c = search (rules, stand_still)

pub returns-in-Lock-clause-wrote : goal.returns-in-Lock-clause-wrote
returns-in-Lock-clause-wrote c = search (rules, lock_fields)

pub returns-in-Lock-clause-spans_2 : goal.returns-in-Lock-clause-spans_2
returns-in-Lock-clause-spans_2 c = search (rules, stand_still)

pub returns-in-AnyGate-clause-wrote : goal.returns-in-AnyGate-clause-wrote
returns-in-AnyGate-clause-wrote c = search (rules, gate_fields)

pub returns-in-AnyGate-clause-spans_2 : goal.returns-in-AnyGate-clause-spans_2
returns-in-AnyGate-clause-spans_2 c = search (rules, stand_still)

pub returns-in-AnyOne-clause-wrote : goal.returns-in-AnyOne-clause-wrote
returns-in-AnyOne-clause-wrote c = search (rules, one_fields)

pub returns-in-AnyOne-clause-spans_2 : goal.returns-in-AnyOne-clause-spans_2
returns-in-AnyOne-clause-spans_2 c = search (rules, stand_still)

-- `owners::Rule::take` takes one rule for one record.
use Rattle.owners.proofs.Rules.{rule_taken}
use Rattle.owners.specs.Owners.{cardinal}
use Rattle.owners.proofs.Rule.take.Goals as goal

pub open_requirement-requires-clause-q_lt_requirements : goal.open_requirement-requires-clause-q_lt_requirements
unfolding cardinal
open_requirement-requires-clause-q_lt_requirements c = rw c.in-OpenRequirement.is at c.requires.i_bound

pub open_constraint-requires-clause-i_lt_constraints : goal.open_constraint-requires-clause-i_lt_constraints
unfolding cardinal
open_constraint-requires-clause-i_lt_constraints c = rw c.in-OpenConstraint.is at c.requires.i_bound

pub queue_requirement-requires-clause-q_lt_requirements : goal.queue_requirement-requires-clause-q_lt_requirements
unfolding cardinal
queue_requirement-requires-clause-q_lt_requirements c = rw c.in-QueueRequirement.is at c.requires.i_bound

pub queue_constraint-requires-clause-i_lt_constraints : goal.queue_constraint-requires-clause-i_lt_constraints
unfolding cardinal
queue_constraint-requires-clause-i_lt_constraints c = rw c.in-QueueConstraint.is at c.requires.i_bound

pub returns-in-OpenRequirement : goal.returns-in-OpenRequirement
returns-in-OpenRequirement c = rule_taken _ _ c.in-OpenRequirement.is c.open_requirement.ensures

pub returns-in-OpenConstraint : goal.returns-in-OpenConstraint
returns-in-OpenConstraint c = rule_taken _ _ c.in-OpenConstraint.is c.open_constraint.ensures

pub returns-in-QueueRequirement : goal.returns-in-QueueRequirement
returns-in-QueueRequirement c = rule_taken _ _ c.in-QueueRequirement.is c.queue_requirement.ensures

pub returns-in-QueueConstraint : goal.returns-in-QueueConstraint
returns-in-QueueConstraint c = rule_taken _ _ c.in-QueueConstraint.is c.queue_constraint.ensures

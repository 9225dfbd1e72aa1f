-- `serving::serve_task` serves a task by its kind.
use Rattle.serving.specs.Serving.{served_as}
use Rattle.serving.proofs.Tasks.{given_as, condition_below, requirement_below, constraint_below, drawn_first, as_kind}
use Rattle.encoder.proofs.Does.{clauses_do_all}
use Rattle.firing.proofs.Served.{entries_do_all}
use Rattle.naming.proofs.AlikeDid.{does_alike, clauses_alike_all}
use Rattle.serving.proofs.Stands.{serving_stands, condition_stands}
use Rattle.serving.proofs.Flags.{flagged_stand}
use Rattle.serving.proofs.serve_task.Goals as goal

pub serve_condition-requires-clause-q_lt_requirements : goal.serve_condition-requires-clause-q_lt_requirements
serve_condition-requires-clause-q_lt_requirements c = let g = given_as c.requires.task_given c.in-Condition.is in
    (condition_below _ _ _ _ g, g.given.1, c.requires.number_nonzero.2)

pub serve_fired-requires-clause-q_lt_requirements : goal.serve_fired-requires-clause-q_lt_requirements
serve_fired-requires-clause-q_lt_requirements c = let g = given_as c.requires.task_given c.in-Requirement.is in
    (requirement_below _ _ _ _ g, c.requires.number_nonzero.0)

pub serve_constraint-requires-clause-i_lt_constraints : goal.serve_constraint-requires-clause-i_lt_constraints
serve_constraint-requires-clause-i_lt_constraints c = let g = given_as c.requires.task_given c.in-Constraint.is in
    constraint_below _ _ _ _ g

pub serve_drawn-requires-clause-number_nonzero : goal.serve_drawn-requires-clause-number_nonzero
serve_drawn-requires-clause-number_nonzero c = let g = given_as c.requires.task_given c.in-Drawn.is in
    (c.requires.number_nonzero.0, c.requires.number_nonzero.1, drawn_first _ _ g)

pub returns-in-Owner-clause-alike_does : goal.returns-in-Owner-clause-alike_does
returns-in-Owner-clause-alike_does c = as_kind _ _ c.in-Owner.is (does_alike (unfold served_as in clauses_do_all c.serve_owner.ensures))

pub returns-in-Owner-clause-flagged_2 : goal.returns-in-Owner-clause-flagged_2
returns-in-Owner-clause-flagged_2 c = flagged_stand (does_alike (clauses_do_all c.serve_owner.ensures)) c.requires.good (λ v. serving_stands _ _ _) c.requires.flagged

pub returns-in-Name-clause-alike_does : goal.returns-in-Name-clause-alike_does
returns-in-Name-clause-alike_does c = as_kind _ _ c.in-Name.is (does_alike (unfold served_as in clauses_do_all c.serve_name.ensures))

pub returns-in-Name-clause-flagged_2 : goal.returns-in-Name-clause-flagged_2
returns-in-Name-clause-flagged_2 c = flagged_stand (does_alike (clauses_do_all c.serve_name.ensures)) c.requires.good (λ v. serving_stands _ _ _) c.requires.flagged

pub returns-in-Condition-clause-alike_does : goal.returns-in-Condition-clause-alike_does
returns-in-Condition-clause-alike_does c = as_kind _ _ c.in-Condition.is (does_alike (unfold served_as in entries_do_all c.serve_condition.ensures))

pub returns-in-Condition-clause-flagged_2 : goal.returns-in-Condition-clause-flagged_2
returns-in-Condition-clause-flagged_2 c = flagged_stand (does_alike (entries_do_all c.serve_condition.ensures)) c.requires.good (λ v. condition_stands _ v _) c.requires.flagged

pub returns-in-Requirement-clause-alike_does : goal.returns-in-Requirement-clause-alike_does
returns-in-Requirement-clause-alike_does c = as_kind _ _ c.in-Requirement.is (unfold served_as in clauses_alike_all c.serve_fired.ensures.clauses_alike)

pub returns-in-Constraint-clause-alike_does : goal.returns-in-Constraint-clause-alike_does
returns-in-Constraint-clause-alike_does c = as_kind _ _ c.in-Constraint.is (does_alike (unfold served_as in clauses_do_all c.serve_constraint.ensures))

pub returns-in-Constraint-clause-flagged_2 : goal.returns-in-Constraint-clause-flagged_2
returns-in-Constraint-clause-flagged_2 c = flagged_stand (does_alike (clauses_do_all c.serve_constraint.ensures)) c.requires.good (λ v. serving_stands _ _ _) c.requires.flagged

pub returns-in-Drawn-clause-alike_does : goal.returns-in-Drawn-clause-alike_does
returns-in-Drawn-clause-alike_does c = as_kind _ _ c.in-Drawn.is (unfold served_as in clauses_alike_all c.serve_drawn.ensures.clauses_alike)

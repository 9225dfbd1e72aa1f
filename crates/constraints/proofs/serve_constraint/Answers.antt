-- `constraints::serve_constraint` serves a constraint's task.
use mathlib.Core.Path.{refl}
use Rattle.encoder.proofs.Steps.{good_alone}
use Rattle.encoder.proofs.Does.{at_catalogue, good_with_then, long_then}
use Rattle.owners.proofs.Records.{constrained_owner, constrained_range}
use Rattle.constraints.proofs.Serving.{few_served, many_served}
use Rattle.constraints.proofs.Steps.{owner_knows}
use Rattle.constraints.proofs.Owners.{owner_fits}
use Rattle.constraints.proofs.serve_constraint.Goals as goal

pub name_variable-requires-clause-o_value : goal.name_variable-requires-clause-o_value
name_variable-requires-clause-o_value c = owner_fits _ _ c.owner_origin.ensures (constrained_owner _ _ _ _ _ _ c.constraint_at-it.ensures c.args.catalogue.now.formed c.args.catalogue.now.indexed c.requires.i_lt_constraints)

pub constrain_few-requires-clause-long_enough : goal.constrain_few-requires-clause-long_enough
constrain_few-requires-clause-long_enough c = long_then c.name_variable.ensures.limits refl c.requires.long_enough

pub constrain_few-requires-clause-good : goal.constrain_few-requires-clause-good
constrain_few-requires-clause-good c = good_with_then (at_catalogue c.name_variable.ensures) c.requires.good

pub constrain_few-requires-clause-number_nonzero : goal.constrain_few-requires-clause-number_nonzero
constrain_few-requires-clause-number_nonzero c = (c.requires.number_nonzero, constrained_range _ _ _ _ _ _ c.constraint_at-it.ensures c.args.catalogue.now.formed c.requires.i_lt_constraints, (constrained_owner _ _ _ _ _ _ c.constraint_at-it.ensures c.args.catalogue.now.formed c.args.catalogue.now.indexed c.requires.i_lt_constraints))

pub constrain_few-requires-clause-knows : goal.constrain_few-requires-clause-knows
constrain_few-requires-clause-knows c = owner_knows _ c.owner_origin.ensures c.name_variable.ensures (good_alone c.requires.good)

pub returns-then-count-lt4 : goal.returns-then-count-lt4
returns-then-count-lt4 c = few_served _ _ _ _ _ _ c.constraint_at-it.ensures _ c.owner_origin.ensures _ c.name_variable.ensures c.non_matching_count-count.ensures c.if-count-lt4.true c.constrain_few.ensures

pub returns-else-count-lt4 : goal.returns-else-count-lt4
returns-else-count-lt4 c = many_served _ _ _ _ _ _ c.constraint_at-it.ensures _ c.owner_origin.ensures _ c.name_variable.ensures c.non_matching_count-count.ensures c.if-count-lt4.false c.constrain_many.ensures

pub constrain_many-requires-clause-long_enough : goal.constrain_many-requires-clause-long_enough
constrain_many-requires-clause-long_enough c = long_then c.name_variable.ensures.limits refl c.requires.long_enough

pub constrain_many-requires-clause-good : goal.constrain_many-requires-clause-good
constrain_many-requires-clause-good c = good_with_then (at_catalogue c.name_variable.ensures) c.requires.good

pub constrain_many-requires-clause-number_nonzero : goal.constrain_many-requires-clause-number_nonzero
constrain_many-requires-clause-number_nonzero c = (c.requires.number_nonzero, constrained_range _ _ _ _ _ _ c.constraint_at-it.ensures c.args.catalogue.now.formed c.requires.i_lt_constraints, (constrained_owner _ _ _ _ _ _ c.constraint_at-it.ensures c.args.catalogue.now.formed c.args.catalogue.now.indexed c.requires.i_lt_constraints))

pub constrain_many-requires-clause-knows : goal.constrain_many-requires-clause-knows
constrain_many-requires-clause-knows c = owner_knows _ c.owner_origin.ensures c.name_variable.ensures (good_alone c.requires.good)

-- `constraints::constrain_each` adds a clause for each non-matching part, once these have their variables.
use mathlib.Core.Path.{refl}
use Rattle.encoder.proofs.Steps.{good_alone}
use Rattle.encoder.proofs.Does.{good_with_then, long_then}
use Rattle.parts.proofs.Names.{named_known}
use Rattle.constraints.proofs.Steps.{knows_after, few_added}
use Rattle.constraints.proofs.Owners.{owner_fits}
use Rattle.constraints.proofs.constrain_each.Goals as goal

pub variable_of-x-requires-clause-mapped : goal.variable_of-x-requires-clause-mapped
variable_of-x-requires-clause-mapped c = (good_with_then c.name_outside.ensures c.requires.good).state.mapped

pub variable_of-x-requires-clause-o_value : goal.variable_of-x-requires-clause-o_value
variable_of-x-requires-clause-o_value c = owner_fits _ _ c.owner_origin.ensures c.requires.number_nonzero.2

pub add_each-requires-clause-good : goal.add_each-requires-clause-good
add_each-requires-clause-good c = good_with_then c.name_outside.ensures c.requires.good

pub add_each-requires-clause-long_enough : goal.add_each-requires-clause-long_enough
add_each-requires-clause-long_enough c = long_then c.name_outside.ensures.limits refl c.requires.long_enough

pub add_each-requires-clause-known_unless_full : goal.add_each-requires-clause-known_unless_full
add_each-requires-clause-known_unless_full c = named_known _ c.name_outside.ensures (good_alone c.requires.good)

pub returns : goal.returns
returns c = few_added _ _ _ _ (knows_after c.name_outside.ensures (good_alone c.requires.good) c.requires.knows) c.owner_origin.ensures c.variable_of-x.ensures c.name_outside.ensures c.add_each.ensures

-- `owners::serve_unknown` gives a part its variable and excludes it.
use mathlib.Core.Path.{refl}
use Rattle.encoder.proofs.Does.{long_then}
use Rattle.storing.proofs.Adding.{good_can_add}
use Rattle.owners.proofs.Serving.{part_in_tables, named_good, unknown_full, unknown_excluded}
use Rattle.owners.proofs.serve_unknown.Goals as goal

pub name_variable-requires-clause-o_value : goal.name_variable-requires-clause-o_value
name_variable-requires-clause-o_value c = part_in_tables _ _ _ _ c.args.catalogue.now.indexed c.requires.number_nonzero.1

pub returns-else-state-eq0 : goal.returns-else-state-eq0
returns-else-state-eq0 c = unknown_full _ _ _ c.requires.number_nonzero.2 c.name_variable.ensures c.if-state-eq0.false

pub returns-then-state-eq0 : goal.returns-then-state-eq0
returns-then-state-eq0 c = unknown_excluded _ _ _ c.requires.number_nonzero.2 c.name_variable.ensures c.requires.good c.if-state-eq0.true c.variable_of-x.ensures c.add_excluded.ensures.added

pub variable_of-x-requires-clause-mapped : goal.variable_of-x-requires-clause-mapped
variable_of-x-requires-clause-mapped c = (named_good c.requires.good c.name_variable.ensures).state.mapped

pub variable_of-x-requires-clause-o_value : goal.variable_of-x-requires-clause-o_value
variable_of-x-requires-clause-o_value c = part_in_tables _ _ _ _ c.args.catalogue.now.indexed c.requires.number_nonzero.1

pub add_excluded-requires-clause-can_add : goal.add_excluded-requires-clause-can_add
add_excluded-requires-clause-can_add c = good_can_add (named_good c.requires.good c.name_variable.ensures) (long_then c.name_variable.ensures.limits refl c.requires.long_enough)

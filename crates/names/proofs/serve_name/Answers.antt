-- `names::serve_name` serves a name's task.
use mathlib.Core.Path.{refl}
use Rattle.encoder.proofs.Does.{good_with_then, long_then}
use Rattle.names.proofs.Serving.{name_served}
use Rattle.names.proofs.serve_name.Goals as goal

pub add_clauses-requires-clause-good : goal.add_clauses-requires-clause-good
add_clauses-requires-clause-good c = good_with_then c.name_parts.ensures.does c.requires.good

pub add_clauses-requires-clause-long_enough : goal.add_clauses-requires-clause-long_enough
add_clauses-requires-clause-long_enough c = long_then c.name_parts.ensures.does.limits refl c.requires.long_enough

pub returns : goal.returns
returns c = name_served _ _ c.name_parts.ensures c.add_clauses.ensures

-- `names::add_clauses` adds the clauses of a name whose parts have their variables.
use Rattle.encoder.proofs.Does.{good_with_later, known_clauses_then, long_then}
use Rattle.names.proofs.Serving.{excluded_known, clauses_added}
use Rattle.names.proofs.add_clauses.Goals as goal

pub add_each-requires-clause-good : goal.add_each-requires-clause-good
add_each-requires-clause-good c = good_with_later c.lock_others.ensures c.requires.good

pub add_each-requires-clause-long_enough : goal.add_each-requires-clause-long_enough
add_each-requires-clause-long_enough c = long_then c.lock_others.ensures.limits c.lock_others.auto.clauses c.requires.long_enough

pub add_each-requires-clause-known_unless_full : goal.add_each-requires-clause-known_unless_full
add_each-requires-clause-known_unless_full c = known_clauses_then c.lock_others.ensures c.requires.good (excluded_known _ _ c.requires.known_unless_full_2)

pub returns : goal.returns
returns c = clauses_added _ _ c.lock_others.ensures c.add_each.ensures

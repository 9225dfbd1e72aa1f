-- `tracking::add_tracked` adds all clauses of a part that joins.
use Rattle.encoder.proofs.Did.{told_full, told_going}
use Rattle.encoder.proofs.Does.{long_then}
use Rattle.tracking.proofs.Clauses.{tracked_first, tracked_second, tracked_older, tracked_all}
use Rattle.tracking.proofs.Steps.{adds_limits, some_all}
use Rattle.tracking.proofs.add_tracked.Goals as goal

pub returns-then-state-ne0 : goal.returns-then-state-ne0
returns-then-state-ne0 c = tracked_first _ _ _ _ _ c.new_helper.ensures (told_full c.if-state-ne0.true)

pub returns-then-state-ne0-2 : goal.returns-then-state-ne0-2
returns-then-state-ne0-2 c = tracked_second _ _ _ _ _ c.new_helper.ensures c.part_clauses.ensures (told_full c.if-state-ne0-2.true)

pub returns : goal.returns
returns c = tracked_all _ _ _ _ _ c.new_helper.ensures c.part_clauses.ensures c.requires.good_some (told_going c.if-state-ne0.false) (told_going c.if-state-ne0-2.false) c.one_clause.ensures

pub part_clauses-requires-clause-good_some : goal.part_clauses-requires-clause-good_some
part_clauses-requires-clause-good_some c = some_all c.requires.good_some c.new_helper.ensures

pub part_clauses-requires-clause-long_enough : goal.part_clauses-requires-clause-long_enough
part_clauses-requires-clause-long_enough c = long_then (adds_limits c.new_helper.ensures) c.new_helper.auto.clauses c.requires.long_enough

pub part_clauses-requires-clause-number_nonzero : goal.part_clauses-requires-clause-number_nonzero
part_clauses-requires-clause-number_nonzero c = (c.requires.can_join.number, rw (adds_limits c.new_helper.ensures) c.requires.i_bound.1)

pub part_clauses-requires-clause-helpers_below : goal.part_clauses-requires-clause-helpers_below
part_clauses-requires-clause-helpers_below c = rw (adds_limits c.new_helper.ensures) c.requires.helpers_below

pub one_clause-requires-clause-good_some : goal.one_clause-requires-clause-good_some
one_clause-requires-clause-good_some c = some_all (some_all c.requires.good_some c.new_helper.ensures) c.part_clauses.ensures

pub one_clause-requires-clause-long_enough : goal.one_clause-requires-clause-long_enough
one_clause-requires-clause-long_enough c =
    long_then (adds_limits c.part_clauses.ensures) c.part_clauses.auto.clauses (long_then (adds_limits c.new_helper.ensures) c.new_helper.auto.clauses c.requires.long_enough)

pub one_clause-requires-clause-name_bound : goal.one_clause-requires-clause-name_bound
one_clause-requires-clause-name_bound c = (c.requires.i_bound.2, tracked_older 0 _ _ _ _ c.new_helper.ensures c.part_clauses.ensures c.requires.good_some (told_going c.if-state-ne0.false) (told_going c.if-state-ne0-2.false) c.requires.can_join.older)

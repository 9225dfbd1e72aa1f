-- `binary_encoding::join_named` adds the clauses of a part and tracks it.
use Rattle.encoder.proofs.Did.{told_full, told_going}
use Rattle.binary_encoding.proofs.Joins.{track_marked, track_count, track_new, track_stop, track_done}
use Rattle.binary_encoding.proofs.join_named.Goals as goal

pub returns-else-state-eq0 : goal.returns-else-state-eq0
returns-else-state-eq0 c = track_stop _ c.join_clauses.ensures (told_full c.if-state-eq0.false)

pub returns-then-state-eq0 : goal.returns-then-state-eq0
returns-then-state-eq0 c = track_done _ c.join_clauses.ensures c.push_tracked.ensures

pub push_tracked-requires-clause-marked : goal.push_tracked-requires-clause-marked
push_tracked-requires-clause-marked c = track_marked c.requires.good_some c.join_clauses.ensures

pub push_tracked-requires-clause-i_value : goal.push_tracked-requires-clause-i_value
push_tracked-requires-clause-i_value c = track_count c.requires.good_some c.join_clauses.ensures (told_going c.if-state-eq0.true) _ _ _ _ c.requires.can_add_part.count

pub push_tracked-requires-clause-untracked : goal.push_tracked-requires-clause-untracked
push_tracked-requires-clause-untracked c = track_new c.requires.good_some c.join_clauses.ensures (told_going c.if-state-eq0.true) _ c.requires.untracked

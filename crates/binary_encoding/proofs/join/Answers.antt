-- `binary_encoding::join` lets a part join its name.
use native.Mathlib.Omega.{arith}
use Rattle.encoder.proofs.Did.{told_full, told_going}
use Rattle.encoder.proofs.Does.{long_then}
use mathlib.Core.Path.{refl}
use Rattle.binary_encoding.proofs.Joins.{count_is, count_few, helpers_few, named_can, named_can_add, named_new, join_stop, join_done}
use Rattle.tracking.proofs.Steps.{of_some, of_any, some_named}
use Rattle.binary_encoding.proofs.join.Goals as goal

pub overflow_add-i : goal.overflow_add-i
overflow_add-i c = let few = count_few c.requires.good_of _ c.requires.p_bound.1 c.requires.p_bound.0 c.requires.untracked c.tracked_count-i.ensures in omega arith

pub helpers_for-h-requires : goal.helpers_for-h-requires
helpers_for-h-requires c = let few = count_few c.requires.good_of _ c.requires.p_bound.1 c.requires.p_bound.0 c.requires.untracked c.tracked_count-i.ensures in omega arith

pub name_join-requires-clause-good_any : goal.name_join-requires-clause-good_any
name_join-requires-clause-good_any c = of_any c.requires.good_of

pub name_join-requires-clause-name_bound : goal.name_join-requires-clause-name_bound
name_join-requires-clause-name_bound c = (
  c.requires.p_bound.1,
  helpers_few _ _ c.helpers_for-h.ensures (count_few c.requires.good_of _ c.requires.p_bound.1 c.requires.p_bound.0 c.requires.untracked c.tracked_count-i.ensures),
  c.requires.p_bound.0,
)

pub returns-else-state-eq0 : goal.returns-else-state-eq0
returns-else-state-eq0 c =
    join_stop _ _ _ _ _ _ _ _ _ _ c.requires.p_bound.2 (count_is c.requires.good_of c.requires.p_bound.1 c.tracked_count-i.ensures) c.helpers_for-h.ensures
    c.name_join.ensures (told_full c.if-state-eq0.false)

pub returns-then-state-eq0 : goal.returns-then-state-eq0
returns-then-state-eq0 c =
    join_done _ _ _ _ _ _ _ _ _ _ c.requires.p_bound.2 (count_is c.requires.good_of c.requires.p_bound.1 c.tracked_count-i.ensures) c.helpers_for-h.ensures
    c.name_join.ensures (of_any c.requires.good_of) c.requires.can_join.going (told_going c.if-state-eq0.true) c.join_named.ensures

pub join_named-requires-clause-good_some : goal.join_named-requires-clause-good_some
join_named-requires-clause-good_some c = some_named (of_some c.requires.good_of) c.name_join.ensures

pub join_named-requires-clause-long_enough : goal.join_named-requires-clause-long_enough
join_named-requires-clause-long_enough c = long_then c.name_join.ensures.does.limits refl c.requires.long_enough

pub join_named-requires-clause-can_join : goal.join_named-requires-clause-can_join
join_named-requires-clause-can_join c = named_can _ _ _ (of_any c.requires.good_of) c.requires.can_join c.name_join.ensures (told_going c.if-state-eq0.true)

pub join_named-requires-clause-can_add_part : goal.join_named-requires-clause-can_add_part
join_named-requires-clause-can_add_part c =
    named_can_add _ _ _ (of_any c.requires.good_of) c.requires.can_join c.name_join.ensures (told_going c.if-state-eq0.true) _ _ _ c.requires.p_bound.0 c.requires.p_bound.2
    c.requires.p_bound.1 (count_is c.requires.good_of c.requires.p_bound.1 c.tracked_count-i.ensures)
    (count_few c.requires.good_of _ c.requires.p_bound.1 c.requires.p_bound.0 c.requires.untracked c.tracked_count-i.ensures) c.helpers_for-h.ensures

pub join_named-requires-clause-untracked : goal.join_named-requires-clause-untracked
join_named-requires-clause-untracked c = named_new _ _ _ (of_any c.requires.good_of) c.requires.can_join c.name_join.ensures (told_going c.if-state-eq0.true) c.requires.untracked

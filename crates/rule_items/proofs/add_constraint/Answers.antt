use Rattle.std.proofs.Common.{rules, refl}
use Rattle.tables.specs.Tables.{with_constraint}
use Rattle.kept.proofs.Entered.{kept_with}
use Rattle.rule_items.proofs.Items.{constraint_full, constraint_ownerless, constraint_rangeless, constraint_unknown, constraint_entered}
use Rattle.rule_items.proofs.add_constraint.Goals as goal

pub returns-then-counts-ge512-clause-entered : goal.returns-then-counts-ge512-clause-entered
returns-then-counts-ge512-clause-entered c n m u = search (rules, constraint_full)

pub returns-then-is_past-clause-entered : goal.returns-then-is_past-clause-entered
returns-then-is_past-clause-entered c n m u = search (rules, constraint_ownerless)

pub returns-then-counts-range-clause-entered : goal.returns-then-counts-range-clause-entered
returns-then-counts-range-clause-entered c n m u = search (rules, constraint_rangeless)

pub returns-then-is_unknown-clause-entered : goal.returns-then-is_unknown-clause-entered
returns-then-is_unknown-clause-entered c n m u = let q = rw (c.as_tables.ensures.counts, c.as_tables.ensures.area) at c.is_unknown.ensures in search (rules, constraint_unknown)

pub returns-clause-entered : goal.returns-clause-entered
returns-clause-entered c n m u = let q = rw (c.as_tables.ensures.counts, c.as_tables.ensures.area) at c.is_unknown.ensures in search (rules, constraint_entered)

pub returns-clause-kept : goal.returns-clause-kept
unfolding with_constraint
returns-clause-kept c = kept_with _ _ c.push_constraint.ensures.added refl refl refl

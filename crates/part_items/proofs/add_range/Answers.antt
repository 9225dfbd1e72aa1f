use Rattle.std.proofs.Common.{rules, refl}
use Rattle.tables.specs.Tables.{with_range}
use Rattle.kept.proofs.Entered.{kept_with}
use Rattle.part_items.proofs.Items.{range_full, range_nameless, range_entered}
use Rattle.part_items.proofs.add_range.Goals as goal

pub returns-then-tables-ge512-clause-entered : goal.returns-then-tables-ge512-clause-entered
returns-then-tables-ge512-clause-entered c n u = search (rules, range_full)

pub returns-then-tables-name-clause-entered : goal.returns-then-tables-name-clause-entered
returns-then-tables-name-clause-entered c n u = search (rules, range_nameless)

pub returns-clause-entered : goal.returns-clause-entered
returns-clause-entered c n u = search (rules, range_entered)

pub returns-clause-kept : goal.returns-clause-kept
unfolding with_range
returns-clause-kept c = kept_with _ _ c.push_range.ensures.added refl refl refl

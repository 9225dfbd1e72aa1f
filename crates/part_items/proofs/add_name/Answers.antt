use Rattle.std.proofs.Common.{rules, refl}
use Rattle.tables.specs.Tables.{with_name}
use Rattle.kept.proofs.Entered.{kept_with}
use Rattle.part_items.proofs.Items.{name_full, name_bits, name_entered}
use Rattle.part_items.proofs.add_name.Goals as goal

pub returns-then-tables-ge64-clause-entered : goal.returns-then-tables-ge64-clause-entered
returns-then-tables-ge64-clause-entered c n m u = search (rules, name_full)

pub returns-then-flags-gt1-clause-entered : goal.returns-then-flags-gt1-clause-entered
returns-then-flags-gt1-clause-entered c n m u = search (rules, name_bits)

pub returns-clause-entered : goal.returns-clause-entered
returns-clause-entered c n m u = search (rules, name_entered)

pub returns-clause-kept : goal.returns-clause-kept
unfolding with_name
returns-clause-kept c = kept_with _ _ c.push_name.ensures.added refl refl refl

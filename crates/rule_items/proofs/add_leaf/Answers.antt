use Rattle.std.proofs.Common.{rules, refl}
use Rattle.tables.specs.Tables.{with_condition}
use Rattle.kept.proofs.Entered.{kept_sized}
use Rattle.rule_items.proofs.Conditions.{leaf_full, leaf_rangeless, leaf_entered, leaf_sized}
use Rattle.rule_items.proofs.add_leaf.Goals as goal

pub returns-then-tables-ge256-clause-entered : goal.returns-then-tables-ge256-clause-entered
returns-then-tables-ge256-clause-entered c n m u = search (rules, leaf_full)

pub returns-then-tables-range-clause-entered : goal.returns-then-tables-range-clause-entered
returns-then-tables-range-clause-entered c n m u = search (rules, leaf_rangeless)

pub returns-clause-entered : goal.returns-clause-entered
returns-clause-entered c n m u = search (rules, leaf_entered)

pub returns-clause-kept : goal.returns-clause-kept
unfolding with_condition
returns-clause-kept c = kept_sized _ _ c.push_condition.ensures.added refl (leaf_sized _ _ c.push_condition.ensures.added)

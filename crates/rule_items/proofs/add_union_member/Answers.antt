use Rattle.std.proofs.Common.{rules}
use Rattle.rule_items.proofs.Items.{row_unionless, row_rangeless, row_entered, row_given}
use Rattle.rule_items.proofs.add_union_member.Goals as goal

pub returns-then-tables-union-clause-entered : goal.returns-then-tables-union-clause-entered
returns-then-tables-union-clause-entered c m = search (rules, row_unionless)

pub returns-then-tables-range-clause-entered : goal.returns-then-tables-range-clause-entered
returns-then-tables-range-clause-entered c m = search (rules, row_rangeless)

pub returns-clause-entered : goal.returns-clause-entered
returns-clause-entered c m = search (rules, row_entered)

pub returns-clause-given : goal.returns-clause-given
returns-clause-given c g = search (rules, row_given)

use Rattle.std.proofs.Common.{rules}
use Rattle.rule_items.proofs.Items.{union_full, union_entered}
use Rattle.rule_items.proofs.add_union.Goals as goal

pub returns-then-tables-ge128-clause-entered : goal.returns-then-tables-ge128-clause-entered
returns-then-tables-ge128-clause-entered c n m u = search (rules, union_full)

pub returns-clause-entered : goal.returns-clause-entered
returns-clause-entered c n m u g = search (rules, union_entered)

use Rattle.std.proofs.Common.{rules, refl}
use Rattle.tables.specs.Tables.{with_requirement}
use Rattle.kept.proofs.Entered.{kept_with}
use Rattle.rule_items.proofs.Items.{requirement_full, requirement_ownerless, requirement_rangeless, requirement_unionless, requirement_conditionless, requirement_form, requirement_unknown, requirement_entered}
use Rattle.rule_items.proofs.add_requirement.Goals as goal

pub returns-then-counts-ge1024-clause-entered : goal.returns-then-counts-ge1024-clause-entered
returns-then-counts-ge1024-clause-entered c n m u = search (rules, requirement_full)

pub returns-then-is_past-clause-entered : goal.returns-then-is_past-clause-entered
returns-then-is_past-clause-entered c n m u = search (rules, requirement_ownerless)

pub returns-then-is_past_goal-clause-entered : goal.returns-then-is_past_goal-clause-entered
returns-then-is_past_goal-clause-entered c n m u = search (rules, requirement_rangeless)

pub returns-then-is_past_goal-2-clause-entered : goal.returns-then-is_past_goal-2-clause-entered
returns-then-is_past_goal-2-clause-entered c n m u = search (rules, requirement_unionless)

pub returns-then-is_past_condition-clause-entered : goal.returns-then-is_past_condition-clause-entered
returns-then-is_past_condition-clause-entered c n m u = search (rules, requirement_conditionless)

pub returns-then-form-gt1-clause-entered : goal.returns-then-form-gt1-clause-entered
returns-then-form-gt1-clause-entered c n m u = search (rules, requirement_form)

pub returns-then-is_unknown-clause-entered : goal.returns-then-is_unknown-clause-entered
returns-then-is_unknown-clause-entered c n m u = let q = rw (c.as_tables.ensures.counts, c.as_tables.ensures.area) at c.is_unknown.ensures in search (rules, requirement_unknown)

pub returns-clause-entered : goal.returns-clause-entered
returns-clause-entered c n m u = let q = rw (c.as_tables.ensures.counts, c.as_tables.ensures.area) at c.is_unknown.ensures in search (rules, requirement_entered)

pub returns-clause-kept : goal.returns-clause-kept
unfolding with_requirement
returns-clause-kept c = kept_with _ _ c.push_requirement.ensures.added refl refl refl

use Rattle.std.proofs.Common.{rules, arith, refl}
use Rattle.std.proofs.lemmas.Result.{err_from_is_err_and}
use Rattle.tables.specs.Tables.{with_condition}
use Rattle.kept.proofs.Entered.{kept_sized}
use Rattle.rule_items.proofs.Conditions.{joined_full, joined_leftless, joined_rightless, joined_operator, joined_many, joined_wide, joined_entered, joined_sized}
use Rattle.rule_items.proofs.add_joined.Goals as goal

pub returns-then-tables-ge256-clause-entered : goal.returns-then-tables-ge256-clause-entered
returns-then-tables-ge256-clause-entered c n m u = search (rules, joined_full)

pub returns-then-tables-left-clause-entered : goal.returns-then-tables-left-clause-entered
returns-then-tables-left-clause-entered c n m u = search (rules, joined_leftless)

pub returns-then-tables-right-clause-entered : goal.returns-then-tables-right-clause-entered
returns-then-tables-right-clause-entered c n m u = search (rules, joined_rightless)

pub returns-in_err-condition-clause-entered : goal.returns-in_err-condition-clause-entered
returns-in_err-condition-clause-entered c n m u =
    let p = err_from_is_err_and c.from_residual.result c.from_residual.ensures.1 in
    rw (p.1, p.2) (joined_operator _ _ _ _ _ _ _ _ (omega arith) (omega arith) (omega arith) _ c.in_err-condition.ensures)

pub returns-then-size-gt64-clause-entered : goal.returns-then-size-gt64-clause-entered
returns-then-size-gt64-clause-entered c n m u =
    joined_many _ _ _ _ _ _ _ _ (omega arith) (omega arith) (omega arith) _ c.in_ok-condition.ensures _ _ _ c.as_tables.ensures.counts c.as_tables.ensures.area c.next_size-size.ensures c.if-size-gt64.true

pub returns-then-size-gt16-clause-entered : goal.returns-then-size-gt16-clause-entered
returns-then-size-gt16-clause-entered c n m u =
    joined_wide _ _ _ _ _ _ _ _ (omega arith) (omega arith) (omega arith) _ c.in_ok-condition.ensures _ _ _ c.as_tables.ensures.counts c.as_tables.ensures.area c.next_size-size.ensures c.if-size-gt64.false c.if-size-gt16.true

pub returns-clause-entered : goal.returns-clause-entered
returns-clause-entered c n m u =
    joined_entered _ _ _ _ _ _ _ _ (omega arith) (omega arith) (omega arith) _ c.in_ok-condition.ensures _ _ _ c.as_tables.ensures.counts c.as_tables.ensures.area c.next_size-size.ensures c.if-size-gt64.false c.if-size-gt16.false _ _ c.push_condition.ensures.added

pub returns-clause-kept : goal.returns-clause-kept
unfolding with_condition
returns-clause-kept c = kept_sized _ _ c.push_condition.ensures.added refl
    (joined_sized _ _ _ c.push_condition.ensures.added _ _ _ c.in_ok-condition.ensures (omega arith) (omega arith) _ _ c.as_tables.ensures.counts c.as_tables.ensures.area c.next_size-size.ensures c.if-size-gt64.false c.if-size-gt16.false)

use Rattle.goals.proofs.Assignments.{any_same}
use Rattle.goals.proofs.Decided.{carried, hold_step, hold_fails, hold_end}
use Rattle.goals.proofs.disjunct_holds.Goals as goal

pub loop-range-preserved : goal.loop-range-preserved
loop-range-preserved c =
    hold_step c.loop-range.invariant (carried _ _ c.conditions.ensures c.ranges-range-items.ensures c.disjunct_of-disjunct.ensures) _
    c.loop-range-test.true (any_same c.assignment-assignment.ensures _ c.range_holds.ensures) c.if-not-range_holds.false

pub returns-then-not-range_holds : goal.returns-then-not-range_holds
returns-then-not-range_holds c =
    hold_fails c.loop-range.invariant (carried _ _ c.conditions.ensures c.ranges-range-items.ensures c.disjunct_of-disjunct.ensures) _
    c.loop-range-test.true (any_same c.assignment-assignment.ensures _ c.range_holds.ensures) c.if-not-range_holds.true

pub returns : goal.returns
returns c = hold_end c.loop-range.invariant (carried _ _ c.conditions.ensures c.ranges-range-items.ensures c.disjunct_of-disjunct.ensures) c.loop-range-test.false

use borrow.Author.Rules.{rules}
use Rattle.encoder.proofs.Did.{told_full, told_going}
use Rattle.beginning.proofs.Added.{opened_start, opened_owners, opened_low, opened_step, opened_end, opened_full}
use Rattle.beginning.proofs.open_added.Goals as goal

pub loop-i-init : goal.loop-i-init
loop-i-init c = search (rules, opened_start)

pub returns-then-state-ne0 : goal.returns-then-state-ne0
returns-then-state-ne0 c = opened_full c.loop-i.invariant (told_full c.if-state-ne0.true)

pub returns : goal.returns
returns c = opened_end c.loop-i.invariant c.loop-i-test.false

pub open_owner-requires-clause-marked : goal.open_owner-requires-clause-marked
open_owner-requires-clause-marked c = opened_owners c.loop-i.invariant

pub open_owner-requires-clause-o_bound : goal.open_owner-requires-clause-o_bound
open_owner-requires-clause-o_bound c = opened_low c.loop-i.invariant (told_going c.if-state-ne0.false) c.loop-i-test.true c.listed-owner.ensures

pub loop-i-preserved : goal.loop-i-preserved
loop-i-preserved c = opened_step c.loop-i.invariant (told_going c.if-state-ne0.false) c.loop-i-test.true c.listed-owner.ensures c.open_owner.ensures

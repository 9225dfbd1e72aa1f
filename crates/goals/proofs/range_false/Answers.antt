use borrow.Author.Rules.{rules}
use Rattle.goals.proofs.Decided.{deny_first, deny_next, deny_known, deny_behind, deny_fails, deny_end}
use Rattle.goals.proofs.range_false.Goals as goal
use Rattle.goals.proofs.range_false.Goals.{then-chosen+else-not-decided_false, else-chosen}

pub loop-p-init : goal.loop-p-init
loop-p-init c = search (rules, deny_first)

pub decided_false-requires-clause-p_value : goal.decided_false-requires-clause-p_value
decided_false-requires-clause-p_value c = search (rules, deny_known)

pub returns-then-not-decided_false : goal.returns-then-not-decided_false
returns-then-not-decided_false c = search (rules, deny_fails)

pub returns : goal.returns
returns c = search (rules, deny_end)

pub loop-p-preserved : goal.loop-p-preserved
loop-p-preserved c = elim c.if-chosen.branch [ then-chosen+else-not-decided_false w ↦ search (rules, deny_behind) | else-chosen w ↦ search (rules, deny_next) ]

use borrow.Author.Rules.{rules}
use Rattle.goals.proofs.Decided.{seek_first, seek_next, seek_behind, seek_found, seek_none}
use Rattle.goals.proofs.range_holds.Goals as goal
use Rattle.goals.proofs.range_holds.Goals.{then-chosen+else-decided_true, else-chosen}

pub loop-p-init : goal.loop-p-init
loop-p-init c = search (rules, seek_first)

pub returns-then-decided_true : goal.returns-then-decided_true
returns-then-decided_true c = search (rules, seek_found)

pub returns : goal.returns
returns c = search (rules, seek_none)

pub loop-p-preserved : goal.loop-p-preserved
loop-p-preserved c = elim c.if-chosen.branch [ then-chosen+else-decided_true w ↦ search (rules, seek_behind) | else-chosen w ↦ search (rules, seek_next) ]

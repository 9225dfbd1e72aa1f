use borrow.Author.Rules.{rules}
use Rattle.blocking.proofs.Watching.{watch_first, watch_past, watch_flag, watched_some, watched_all}
use Rattle.blocking.proofs.watch_parts.Goals as goal
use Rattle.blocking.proofs.watch_parts.Goals.{then-chosen, else-chosen}

pub loop-p-init : goal.loop-p-init
loop-p-init c = search (rules, watch_first)

pub returns-then-left-eq0 : goal.returns-then-left-eq0
returns-then-left-eq0 c = search (rules, watched_some)

pub returns : goal.returns
returns c = search (rules, watched_all)

pub loop-p-preserved : goal.loop-p-preserved
loop-p-preserved c = elim c.if-chosen.branch [ then-chosen w ↦ watch_flag _ _ _ _ _ c.loop-p.invariant _ c.loop-p-test.true c.chosen.ensures c.next_chosen-p.ensures c.args.catalogue.now.indexed.held.laid.parts w.if-chosen.true w.besides.ensures w.watched-is | else-chosen w ↦ search (rules, watch_past) ]

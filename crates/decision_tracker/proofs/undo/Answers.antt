use borrow.Author.Rules.{rules}
use Rattle.decision_tracker.proofs.Laws.{some_left, undo_step, undo_end}
use Rattle.decision_tracker.proofs.undo.Goals as goal

pub drop_last-k-requires-clause-d_nonzero : goal.drop_last-k-requires-clause-d_nonzero
drop_last-k-requires-clause-d_nonzero c = search (rules, some_left)

pub loop-l-preserved : goal.loop-l-preserved
loop-l-preserved c = search (rules, undo_step)

pub returns : goal.returns
returns c = search (rules, undo_end)

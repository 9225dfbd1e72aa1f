-- `decision_tracker::drop_last` makes the last decision's variable undecided.
use borrow.Author.Rules.{rules}
use Rattle.decision_tracker.proofs.Laws.{dropped}
use Rattle.decision_tracker.proofs.drop_last.Goals as goal

pub returns : goal.returns
returns c = search (rules, dropped)

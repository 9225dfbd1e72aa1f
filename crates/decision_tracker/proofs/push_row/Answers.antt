-- `decision_tracker::push_row` stores one row more behind the d rows.
use borrow.Author.Rules.{rules}
use Rattle.decision_tracker.proofs.Laws.{row_pushed, stored_is}
use Rattle.decision_tracker.proofs.push_row.Goals as goal

pub returns : goal.returns
returns c = search (rules, row_pushed, stored_is)

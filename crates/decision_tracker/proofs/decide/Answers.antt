-- `decision_tracker::decide` stores one decision more and the value of its variable. There is room, since its variable was undecided.
use borrow.Author.Rules.{rules}
use Rattle.decision_tracker.proofs.Laws.{room_for, decided}
use Rattle.decision_tracker.proofs.decide.Goals as goal

pub push_row-requires-clause-d_lt_variables : goal.push_row-requires-clause-d_lt_variables
push_row-requires-clause-d_lt_variables c = search (rules, room_for)

pub returns : goal.returns
returns c = search (rules, decided)

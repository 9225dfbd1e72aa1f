-- `clear_row` leaves range r without members, and changes no other range.
use borrow.Author.Rules.{rules}
use Rattle.marks.proofs.Laws.{clear_is}
use Rattle.marks.proofs.MarksMut.clear_row.Goals as goal

pub returns-clause-cleared : goal.returns-clause-cleared
returns-clause-cleared c = search (rules, clear_is)

-- `mark` makes part p a member of range r, and changes no other member.
use borrow.Author.Rules.{rules}
use Rattle.marks.proofs.Laws.{mark_is}
use Rattle.marks.proofs.MarksMut.mark.Goals as goal

pub returns-clause-marked : goal.returns-clause-marked
returns-clause-marked c = search (rules, mark_is)

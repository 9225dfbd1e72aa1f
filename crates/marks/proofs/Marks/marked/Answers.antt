-- `marked` says whether part p is a member of range r.
use borrow.Author.Rules.{rules}
use Rattle.marks.proofs.Laws.{marked_in, marked_out}
use Rattle.marks.proofs.Marks.marked.Goals as goal

pub returns-then-p-lt1024 : goal.returns-then-p-lt1024
returns-then-p-lt1024 c = search (rules, marked_in)

pub returns-else-p-lt1024 : goal.returns-else-p-lt1024
returns-else-p-lt1024 c = search (rules, marked_out)

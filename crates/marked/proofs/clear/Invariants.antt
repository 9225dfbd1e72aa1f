-- `marked::clear` empties the list. The invariant: the numbers passed have no mark any more, and the other marks are as they were.
use Rattle.marked.specs.Marked.{list_of, marks_of}
use Rattle.marked.proofs.Laws.{Clearing}
use Rattle.marked.proofs.clear.Given as goal

abbrev pub invariant-loop-i : goal.invariant-loop-i
invariant-loop-i l = Clearing l.l (list_of l.list) (marks_of l.list) l.n l.initial.s l.s l.i

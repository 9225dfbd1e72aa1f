-- `end` finds the end of the members. The invariant: none stands behind p.
use Rattle.marks.specs.Marks.{EndOfMembers}
use Rattle.marks.proofs.Marks.end.Given as goal

abbrev pub invariant-loop-p : goal.invariant-loop-p
invariant-loop-p l = EndOfMembers l.self.area.now l.r l.to l.p

abbrev pub decreases-loop-p : goal.decreases-loop-p
decreases-loop-p l = l.p

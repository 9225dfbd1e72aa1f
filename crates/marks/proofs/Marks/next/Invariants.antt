-- `next` finds the next member. The invariant: none was passed.
use Prim.Native.Nat.{◌-◌}
use Rattle.marks.proofs.Laws.{Passed}
use Rattle.marks.proofs.Marks.next.Given as goal

abbrev pub invariant-loop-p : goal.invariant-loop-p
invariant-loop-p l = Passed l.self.area.now l.r l.from l.p

abbrev pub decreases-loop-p : goal.decreases-loop-p
decreases-loop-p l = l.to - l.p

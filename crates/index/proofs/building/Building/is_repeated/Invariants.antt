-- `is_repeated` compares a row with the four before it. The invariant: it is like those that were passed.
use Rattle.index.specs.Building.{rows_of}
use Rattle.index.proofs.Members.{LikeBefore}
use Rattle.index.proofs.building.Building.is_repeated.Given as goal

abbrev pub invariant-loop-back : goal.invariant-loop-back
invariant-loop-back l = LikeBefore (rows_of l.self) l.i l.back

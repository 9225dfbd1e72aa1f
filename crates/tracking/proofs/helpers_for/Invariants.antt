-- `tracking::helpers_for`: how many helpers k tracked parts have. The invariant: fewer than h are too few.
use Rattle.tracking.proofs.Helpers.{Fewer}
use Rattle.tracking.proofs.helpers_for.Given as goal

abbrev pub invariant-loop-h : goal.invariant-loop-h
invariant-loop-h l = Fewer l.k l.h

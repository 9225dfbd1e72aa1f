-- `blocking::Blocking::release_watched` unblocks the ranges of each class whose bit is set that have the part. The invariant: so it is of those whose bit was taken away.
use Rattle.blocking.proofs.Releasing.{Classes}
use Rattle.blocking.proofs.Blocking.release_watched.Given as goal

abbrev pub invariant-loop-rest : goal.invariant-loop-rest
invariant-loop-rest l = Classes l.ranges l.marks.area.now l.p l.v l.rest l.initial.self l.self

abbrev pub decreases-loop-rest : goal.decreases-loop-rest
decreases-loop-rest l = l.rest

-- `blocking::Blocking::release_class` unblocks every range of a class that has the part. The invariant: none of the class before range r is blocked that has it.
use Rattle.blocking.proofs.Releasing.{Class}
use Rattle.blocking.proofs.Blocking.release_class.Given as goal

abbrev pub invariant-loop-r : goal.invariant-loop-r
invariant-loop-r l = Class l.marks.area.now l.p l.j l.r l.initial.self l.self

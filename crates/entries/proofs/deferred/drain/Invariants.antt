-- `entries::deferred::drain` leaves the free records of the first n. The invariant: of the first i the free ones stand in front (`Places.antt`).
use Rattle.entries.proofs.Places.{Draining}
use Rattle.entries.proofs.deferred.drain.Given as goal

abbrev pub invariant-loop-i : goal.invariant-loop-i
invariant-loop-i l = Draining l.held l.initial.es l.i l.es l.to

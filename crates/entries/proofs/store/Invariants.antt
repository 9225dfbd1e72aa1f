-- `entries::store` puts the first n records of a list in the place of those that wait. The invariant: the first i of them wait.
use Rattle.entries.proofs.Drain.{Storing}
use Rattle.entries.proofs.store.Given as goal

abbrev pub invariant-loop-i : goal.invariant-loop-i
invariant-loop-i l = Storing l.l l.records l.initial.w l.i l.w

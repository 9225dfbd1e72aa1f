-- `firing::add_waitings` puts these disjuncts behind those that wait. The invariant: those passed wait.
use Rattle.firing.proofs.Waitings.{Waited}
use Rattle.firing.proofs.add_waitings.Given as goal

abbrev pub invariant-loop-index : goal.invariant-loop-index
invariant-loop-index l = Waited l.q l.indices l.initial.state l.initial.w l.state l.w l.index-index

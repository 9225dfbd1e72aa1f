-- `beginning::open_added` opens the added owners. The invariant: those passed are open.
use Rattle.beginning.proofs.Added.{Opened}
use Rattle.beginning.proofs.open_added.Given as goal

abbrev pub invariant-loop-i : goal.invariant-loop-i
invariant-loop-i l = Opened l.count l.initial.state l.state l.i

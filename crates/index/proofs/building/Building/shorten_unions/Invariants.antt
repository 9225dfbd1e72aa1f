-- `shorten_unions` has the chains of all unions pass their idle rows. The invariant: the rows are as they were, and linked.
use Rattle.index.proofs.Steps.{RelinkedTo}
use Rattle.index.proofs.building.Building.shorten_unions.Given as goal

abbrev pub invariant-loop-union : goal.invariant-loop-union
invariant-loop-union l = RelinkedTo l.initial.self l.self

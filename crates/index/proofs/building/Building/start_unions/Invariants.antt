-- `start_unions` leaves every union without a row. The invariant: those passed are so.
use Rattle.index.proofs.Steps.{UnlinkedTo}
use Rattle.index.proofs.building.Building.start_unions.Given as goal

abbrev pub invariant-loop-union : goal.invariant-loop-union
invariant-loop-union l = UnlinkedTo l.initial.self l.self l.union

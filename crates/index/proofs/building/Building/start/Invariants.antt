-- `start` leaves every key without a row. The invariant: those below `key` are so.
use Rattle.index.proofs.Steps.{Headed}
use Rattle.index.proofs.building.Building.start.Given as goal

abbrev pub invariant-loop-key : goal.invariant-loop-key
invariant-loop-key g l = Headed g.C.Chain.chain g.C.Chain.rows g.C.Chain.keys l.initial.self l.self l.key

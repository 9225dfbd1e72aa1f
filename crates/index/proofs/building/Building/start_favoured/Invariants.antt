-- `start_favoured` has no part of any name favoured yet.
use Rattle.index.proofs.Steps.{FavouredFrom}
use Rattle.index.proofs.building.Building.start_favoured.Given as goal

abbrev pub invariant-loop-name : goal.invariant-loop-name
invariant-loop-name l = FavouredFrom l.initial.self l.self l.initial.self.counts.parts

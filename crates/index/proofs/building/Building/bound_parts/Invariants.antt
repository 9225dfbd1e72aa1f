-- `bound_parts` has the favoured parts of all names within bounds. The invariant: those from part i on.
use Rattle.index.proofs.Steps.{FavouredFrom}
use Rattle.index.proofs.building.Building.bound_parts.Given as goal

abbrev pub invariant-loop-i : goal.invariant-loop-i
invariant-loop-i l = FavouredFrom l.initial.self l.self l.i

-- `link_members` links all rows by their unions, last to first. The invariant: those from row i on are linked.
use Rattle.index.proofs.Steps.{ThreadedFrom}
use Rattle.index.proofs.building.Building.link_members.Given as goal

abbrev pub invariant-loop-i : goal.invariant-loop-i
invariant-loop-i l = ThreadedFrom l.initial.self l.self l.i

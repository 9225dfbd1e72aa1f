-- `note_non_matching` stores the first non-matching parts of all. The invariant: those of the ranges passed.
use Rattle.index.proofs.Steps.{NotedTo}
use Rattle.index.proofs.building.Building.note_non_matching.Given as goal

abbrev pub invariant-loop-range : goal.invariant-loop-range
invariant-loop-range l = NotedTo l.initial.self l.self l.range

-- `bound_ranges` stores the bounds of all. The invariant: those of the ranges passed.
use Rattle.index.proofs.Steps.{BoundedTo}
use Rattle.index.proofs.building.Building.bound_ranges.Given as goal

abbrev pub invariant-loop-range : goal.invariant-loop-range
invariant-loop-range l = BoundedTo l.initial.self l.self l.range

use native.Mathlib.Omega.{arith}
use borrow.Author.Rules.{rules}
use Rattle.index.proofs.Steps.{bounded_start, bounded_below, bounded_step, bounded_last}
use Rattle.index.proofs.building.Building.bound_ranges.Goals as goal

pub loop-range-init : goal.loop-range-init
loop-range-init c = bounded_start _

pub bound_range-requires : goal.bound_range-requires
bound_range-requires c = bounded_below c.loop-range.invariant (omega arith)

pub loop-range-preserved : goal.loop-range-preserved
loop-range-preserved c = bounded_step c.loop-range.invariant (omega arith) c.bound_range.ensures.bounds c.bound_range.ensures.others

pub returns-clause-bounding : goal.returns-clause-bounding
returns-clause-bounding c = search (rules, bounded_last)

use native.Mathlib.Omega.{arith}
use borrow.Author.Rules.{rules}
use Rattle.index.proofs.Steps.{noted_none_yet, noted_linked, noted_below, noted_step, noted_last}
use Rattle.index.proofs.building.Building.note_non_matching.Goals as goal

pub loop-range-init : goal.loop-range-init
loop-range-init c = noted_none_yet _

pub find_non_matching-first-requires-clause-linked : goal.find_non_matching-first-requires-clause-linked
find_non_matching-first-requires-clause-linked c = noted_linked c.loop-range.invariant c.requires

pub find_non_matching-first-requires-clause-range_in_bounds : goal.find_non_matching-first-requires-clause-range_in_bounds
find_non_matching-first-requires-clause-range_in_bounds c = noted_below c.loop-range.invariant (omega arith)

pub loop-range-preserved : goal.loop-range-preserved
loop-range-preserved c = noted_step c.loop-range.invariant (omega arith) c.find_non_matching-first.ensures c.put.ensures (search rules)

pub returns-clause-noting : goal.returns-clause-noting
returns-clause-noting c = search (rules, noted_last)

-- `bound_range` stores the bounds of a range.
use borrow.Author.Rules.{rules}
use Rattle.index.proofs.Laws.{bounds_stored}
use Rattle.index.proofs.building.Building.bound_range.Goals as goal

pub returns-clause-bounds : goal.returns-clause-bounds
returns-clause-bounds c = search (rules, bounds_stored)

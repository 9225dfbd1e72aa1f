-- `bound_part` has part i within the bounds of its name if it is favoured.
use borrow.Author.Rules.{rules}
use Rattle.index.proofs.Favoured.{favoured_passed}
use Rattle.index.proofs.building.Building.bound_part.Goals as goal

pub returns-else-has-clause-favouring : goal.returns-else-has-clause-favouring
returns-else-has-clause-favouring c = search (rules, favoured_passed)

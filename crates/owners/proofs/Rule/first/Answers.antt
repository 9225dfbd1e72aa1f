-- `owners::Rule::first` passes none of the records of the owner.
use borrow.Author.Rules.{rules}
use Rattle.owners.proofs.Along.{along_requirements, along_constraints}
use Rattle.owners.proofs.Rule.first.Goals as goal

pub returns-in-OpenRequirement : goal.returns-in-OpenRequirement
returns-in-OpenRequirement c = search (rules, along_requirements)

pub returns-in-OpenConstraint : goal.returns-in-OpenConstraint
returns-in-OpenConstraint c = search (rules, along_constraints)

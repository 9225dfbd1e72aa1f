-- `owners::Rule::next` passes none of the records of the owner.
use borrow.Author.Rules.{rules}
use Rattle.owners.proofs.Along.{along_requirements, along_constraints, below_requirements, below_constraints}
use Rattle.owners.proofs.Rule.next.Goals as goal

pub next_requirement-requires : goal.next_requirement-requires
next_requirement-requires c = search (rules, below_requirements)

pub next_constraint-requires : goal.next_constraint-requires
next_constraint-requires c = search (rules, below_constraints)

pub returns-in-OpenRequirement : goal.returns-in-OpenRequirement
returns-in-OpenRequirement c = search (rules, along_requirements)

pub returns-in-OpenConstraint : goal.returns-in-OpenConstraint
returns-in-OpenConstraint c = search (rules, along_constraints)

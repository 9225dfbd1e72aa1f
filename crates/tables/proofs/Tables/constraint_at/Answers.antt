-- `constraint_at` gives the row of a constraint, and one of the root on range 0 past the constraints.
use borrow.Author.Rules.{rules}
use Rattle.tables.proofs.Laws.{constraint_in, constraint_past}
use Rattle.tables.proofs.Tables.constraint_at.Goals as goal

pub returns-then-constraint-self : goal.returns-then-constraint-self
returns-then-constraint-self c = search (rules, constraint_in)

pub returns-else-constraint-self : goal.returns-else-constraint-self
returns-else-constraint-self c = search (rules, constraint_past)

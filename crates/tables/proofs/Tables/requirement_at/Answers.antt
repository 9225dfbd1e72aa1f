-- `requirement_at` gives the row of a requirement, and one of the root for range 0 past the requirements.
use borrow.Author.Rules.{rules}
use Rattle.tables.proofs.Laws.{requirement_in, requirement_past}
use Rattle.tables.proofs.Tables.requirement_at.Goals as goal

pub returns-then-requirement-self : goal.returns-then-requirement-self
returns-then-requirement-self c = search (rules, requirement_in)

pub returns-else-requirement-self : goal.returns-else-requirement-self
returns-else-requirement-self c = search (rules, requirement_past)

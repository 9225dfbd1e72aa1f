-- `from_parts` makes the goal that a record's form and number stand for.
use borrow.Author.Rules.{rules}
use Rattle.requirement.proofs.Laws.{range_made, union_made}
use Rattle.requirement.proofs.Requirement.from_parts.Goals as goal

pub returns-then-form-eq0 : goal.returns-then-form-eq0
returns-then-form-eq0 c = search (rules, range_made)

pub returns-else-form-eq0 : goal.returns-else-form-eq0
returns-else-form-eq0 c = search (rules, union_made)

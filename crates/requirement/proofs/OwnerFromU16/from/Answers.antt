-- The owner of a number: 65,535 is the root's.
use borrow.Author.Rules.{rules}
use Rattle.requirement.proofs.Laws.{root_made, part_made}
use Rattle.requirement.proofs.OwnerFromU16.from.Goals as goal

pub returns-then-number-eq-NO_NUMBER : goal.returns-then-number-eq-NO_NUMBER
returns-then-number-eq-NO_NUMBER c = search (rules, root_made)

pub returns-else-number-eq-NO_NUMBER : goal.returns-else-number-eq-NO_NUMBER
returns-else-number-eq-NO_NUMBER c = search (rules, part_made)

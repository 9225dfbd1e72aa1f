-- `requirement::condition_of`: 65,535 is no condition's number.
use borrow.Author.Rules.{rules}
use Rattle.requirement.proofs.Laws.{no_condition_made, condition_made}
use Rattle.requirement.proofs.condition_of.Goals as goal

pub returns-then-number-eq-NO_NUMBER : goal.returns-then-number-eq-NO_NUMBER
returns-then-number-eq-NO_NUMBER c = search (rules, no_condition_made)

pub returns-else-number-eq-NO_NUMBER : goal.returns-else-number-eq-NO_NUMBER
returns-else-number-eq-NO_NUMBER c = search (rules, condition_made)

-- `clause_lines::asserted` finds the variable that a clause asserts false.
use borrow.Author.Rules.{rules}
use Rattle.clause_lines.proofs.Asserting.{literals_assert, alone_asserts}
use Rattle.clause_lines.proofs.asserted.Goals as goal

pub returns-then-count-ne0 : goal.returns-then-count-ne0
returns-then-count-ne0 c = search (rules, literals_assert)

pub returns-else-count-ne0 : goal.returns-else-count-ne0
returns-else-count-ne0 c = search (rules, alone_asserts)

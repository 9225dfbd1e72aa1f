-- `clause_lines::assertion_line` prints the line of a clause that asserts, and nothing for another.
use borrow.Author.Rules.{rules}
use Rattle.clause_lines.proofs.Asserting.{assertion_some, assertion_none}
use Rattle.clause_lines.proofs.assertion_line.Goals as goal

pub returns-in-Some : goal.returns-in-Some
returns-in-Some c = search (rules, assertion_some)

pub returns-in_default : goal.returns-in_default
returns-in_default c = search (rules, assertion_none)

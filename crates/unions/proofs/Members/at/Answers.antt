-- `at` gives row i, and zeros past them.
use borrow.Author.Rules.{rules}
use Rattle.unions.proofs.Laws.{member_in, member_past}
use Rattle.unions.proofs.Members.at.Goals as goal

pub returns-then-i-self : goal.returns-then-i-self
returns-then-i-self c = search (rules, member_in)

pub returns-else-i-self : goal.returns-else-i-self
returns-else-i-self c = search (rules, member_past)

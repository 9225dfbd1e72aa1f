-- `parts::is_due`: a settled part is left, whether it is one of these or not.
use borrow.Author.Rules.{rules}
use Rattle.parts.proofs.Names.{due_settled, due_selected}
use Rattle.parts.proofs.is_due.Goals as goal

pub returns-then-not-is_settled : goal.returns-then-not-is_settled
returns-then-not-is_settled c = search (rules, due_selected)

pub returns-else-not-is_settled : goal.returns-else-not-is_settled
returns-else-not-is_settled c = search (rules, due_settled)

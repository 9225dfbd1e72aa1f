-- `size` gives the size that is stored, which in sized tables is that of the condition's disjuncts.
use borrow.Author.Rules.{rules}
use Rattle.conditions.proofs.Sizing.{size_known}
use Rattle.conditions.proofs.Conditions.size.Goals as goal

pub returns : goal.returns
returns c = search (rules, size_known)

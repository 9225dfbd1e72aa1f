-- `carried::made_true` gives the only part that a decision can make true.
use borrow.Author.Rules.{rules}
use Rattle.carried.proofs.Blocking.{makes_value, makes_other, makes_part}
use Rattle.carried.proofs.made_true.Goals as goal

pub returns-then-value-ne1 : goal.returns-then-value-ne1
returns-then-value-ne1 c = search (rules, makes_value)

pub returns-in_default : goal.returns-in_default
returns-in_default c = search (rules, makes_other)

pub returns-in-Part : goal.returns-in-Part
returns-in-Part c = search (rules, makes_part)

-- `marks::power_of` gives 2 to the power j.
use borrow.Author.Rules.{rules}
use Rattle.marks.proofs.Laws.{power_is}
use Rattle.marks.proofs.power_of.Goals as goal

pub returns : goal.returns
returns c = search (rules, power_is)

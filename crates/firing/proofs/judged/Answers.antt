-- `firing::judged` lists the disjuncts of a requirement that hold now, or those that do not, by their flags.
use borrow.Author.Rules.{rules}
use Rattle.firing.proofs.Judging.{judged_listed}
use Rattle.firing.proofs.judged.Goals as goal

pub returns : goal.returns
returns c = search (rules, judged_listed)

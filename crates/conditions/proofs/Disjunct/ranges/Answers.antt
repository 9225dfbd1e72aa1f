-- The ranges that are carried.
use borrow.Author.Rules.{rules}
use Rattle.conditions.specs.Disjuncts.{ranges_of}
use Rattle.conditions.proofs.Disjunct.ranges.Goals as goal

pub returns : goal.returns
unfolding ranges_of
returns c = search rules

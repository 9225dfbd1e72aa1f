-- No range is carried.
use borrow.Author.Rules.{rules}
use Rattle.conditions.specs.Disjuncts.{ranges_of}
use Rattle.conditions.proofs.Disjunct.new.Goals as goal

pub returns : goal.returns
unfolding ranges_of
returns c = search rules

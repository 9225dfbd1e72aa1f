use borrow.Author.Rules.{rules}
use Rattle.tracking.proofs.Helpers.{fewer_found, fewer_end}
use Rattle.tracking.proofs.helpers_for.Goals as goal

pub returns-then-k-power_of : goal.returns-then-k-power_of
returns-then-k-power_of c = search (rules, fewer_found)

pub returns : goal.returns
returns c = search (rules, fewer_end)

-- `has_non_matching`: the first non-matching part is a part exactly where there is one.
use borrow.Author.Rules.{rules}
use Rattle.index.proofs.Counting.{non_matching_some}
use Rattle.index.proofs.Index.has_non_matching.Goals as goal

pub returns : goal.returns
returns c = search (rules, non_matching_some)

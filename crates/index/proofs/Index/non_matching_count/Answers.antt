-- `non_matching_count` counts the non-matching parts of a range.
use borrow.Author.Rules.{rules}
use Rattle.index.proofs.Counting.{non_matching_counted}
use Rattle.index.proofs.Index.non_matching_count.Goals as goal

pub returns : goal.returns
returns c = search (rules, non_matching_counted)

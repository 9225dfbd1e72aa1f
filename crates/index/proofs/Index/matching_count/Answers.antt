-- `matching_count` counts the matching parts of a range, up to `most`.
use borrow.Author.Rules.{rules}
use Rattle.index.proofs.Counting.{matching_counted, matching_none}
use Rattle.index.proofs.Index.matching_count.Goals as goal

pub returns-then-first-self : goal.returns-then-first-self
returns-then-first-self c = search (rules, matching_counted)

pub returns : goal.returns
returns c = search (rules, matching_none)

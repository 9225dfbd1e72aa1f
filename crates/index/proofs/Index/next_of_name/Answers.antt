-- `next_of_name` passes no member of the range.
use borrow.Author.Rules.{rules}
use Rattle.index.proofs.Selecting.{skips_members}
use Rattle.index.proofs.Index.next_of_name.Goals as goal

pub returns : goal.returns
returns c = search (rules, skips_members)

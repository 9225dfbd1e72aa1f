-- `listing::entry_line` prints the line of a requirement under a disjunct of its condition.
use borrow.Author.Rules.{rules}
use Rattle.listing.proofs.Waiting.{entry_line}
use Rattle.listing.proofs.entry_line.Goals as goal

pub returns : goal.returns
returns c = search (rules, entry_line)

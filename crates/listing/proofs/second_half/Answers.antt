-- `listing::second_half` prints the lines behind the names.
use borrow.Author.Rules.{rules}
use Rattle.listing.proofs.Whole.{second_half_law}
use Rattle.listing.proofs.second_half.Goals as goal

pub returns : goal.returns
returns c = search (rules, second_half_law)

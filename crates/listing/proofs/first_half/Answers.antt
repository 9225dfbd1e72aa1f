-- `listing::first_half` prints variables, clauses, owners and names.
use borrow.Author.Rules.{rules}
use Rattle.listing.proofs.Whole.{first_half_law}
use Rattle.listing.proofs.first_half.Goals as goal

pub returns : goal.returns
returns c = search (rules, first_half_law)

-- `listing::entry_fields` prints the owner, the goal and the ranges of a requirement.
use borrow.Author.Rules.{rules}
use Rattle.listing.proofs.Waiting.{entry_fields_law}
use Rattle.listing.proofs.entry_fields.Goals as goal

pub returns : goal.returns
returns c = search (rules, entry_fields_law)

-- `listing::state_notes` prints decisions and waiting entries.
use borrow.Author.Rules.{rules}
use Rattle.listing.proofs.Whole.{state_notes_law}
use Rattle.listing.proofs.state_notes.Goals as goal

pub returns : goal.returns
returns c = search (rules, state_notes_law)

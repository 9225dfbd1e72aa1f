-- `listing::clause_notes` prints conflicts and asserted variables.
use borrow.Author.Rules.{rules}
use Rattle.listing.proofs.Whole.{clause_notes_law}
use Rattle.listing.proofs.clause_notes.Goals as goal

pub returns : goal.returns
returns c = search (rules, clause_notes_law)

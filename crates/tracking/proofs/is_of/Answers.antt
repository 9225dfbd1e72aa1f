-- `tracking::is_of` tells whether the tracked part at a place is of a name.
use borrow.Author.Rules.{rules}
use Rattle.tracking.proofs.Parts.{is_of}
use Rattle.tracking.proofs.is_of.Goals as goal

pub returns : goal.returns
returns c = search (rules, is_of)

-- `binary_encoding::join_all` lets all named parts join, as `join_all` says.
use borrow.Author.Rules.{rules}
use Rattle.binary_encoding.proofs.Joined.{names_low}
use Rattle.binary_encoding.proofs.join_all.Goals as goal

pub note_joiners-requires : goal.note_joiners-requires
note_joiners-requires c = search (rules, names_low)

-- `binary_encoding::note_joiner` flags the name of a part that is not tracked.
use borrow.Author.Rules.{rules}
use Rattle.binary_encoding.proofs.Joiners.{joiner_low, joiner_flagged}
use Rattle.binary_encoding.proofs.note_joiner.Goals as goal

pub returns : goal.returns
returns c = search (rules, joiner_flagged)

pub bounds-joiners-name : goal.bounds-joiners-name
bounds-joiners-name c = search (rules, joiner_low)

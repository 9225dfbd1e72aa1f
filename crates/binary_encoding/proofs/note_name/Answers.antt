-- `binary_encoding::note_name` notes a name that is flagged.
use borrow.Author.Rules.{rules}
use Rattle.binary_encoding.proofs.Joiners.{name_noted, name_passed}
use Rattle.binary_encoding.proofs.note_name.Goals as goal

pub returns-then-joiners-name : goal.returns-then-joiners-name
returns-then-joiners-name c = search (rules, name_noted)

pub returns : goal.returns
returns c = search (rules, name_passed)

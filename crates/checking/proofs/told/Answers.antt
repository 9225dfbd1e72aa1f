-- `checking::told` is what `check` says of a catalogue that was read.
use borrow.Author.Rules.{rules}
use Rattle.checking.proofs.Laws.{told_ok, told_err}
use Rattle.checking.proofs.told.Goals as goal

pub returns-in-Ok : goal.returns-in-Ok
returns-in-Ok c = search (rules, told_ok)

pub returns-in-Err : goal.returns-in-Err
returns-in-Err c = search (rules, told_err)

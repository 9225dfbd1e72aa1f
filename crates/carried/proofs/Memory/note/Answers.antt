-- `carried::Memory::note` keeps the flags of conditions of which nothing is to be drawn.
use borrow.Author.Rules.{rules}
use Rattle.carried.proofs.Settling.{notes_same, notes_draw, notes_none}
use Rattle.carried.proofs.Memory.note.Goals as goal

pub returns-in-Add-clause-notes : goal.returns-in-Add-clause-notes
returns-in-Add-clause-notes c = notes_same _ c.in-Add.is

pub returns-in-Draw-clause-notes : goal.returns-in-Draw-clause-notes
returns-in-Draw-clause-notes c = search (rules, notes_draw)

pub returns-in-Decide-clause-notes : goal.returns-in-Decide-clause-notes
returns-in-Decide-clause-notes c = search (rules, notes_none)

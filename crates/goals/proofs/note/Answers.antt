-- `goals::note` lists a number that is not there yet.
use mathlib.Core.Path.{refl}
use borrow.Author.Rules.{rules}
use Rattle.goals.proofs.Hand.{note_free, note_there, note_new, written_same}
use Rattle.goals.proofs.note.Goals as goal

pub returns-then-lists : goal.returns-then-lists
returns-then-lists c = record { written = written_same; notes = note_there _ c.requires.marked.0 c.lists.ensures c.if-lists.true }

pub returns : goal.returns
returns c = record {
  written = record { limits = refl; area = refl; used = refl };
  notes = note_new _ c.requires.marked.0 c.lists.ensures c.if-lists.false c.push.ensures;
}

pub push-requires : goal.push-requires
push-requires c = search (rules, note_free)

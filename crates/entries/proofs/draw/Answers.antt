-- `entries::draw` draws those that are held and leaves the others, a law for each way out.
use borrow.Author.Rules.{rules}
use native.Mathlib.Omega.{arith}
use mathlib.Core.Path.{sym}
use lib.Seq.{length-take-le}
use Rattle.entries.proofs.Drain.{none_drawn, some_drawn}
use Rattle.entries.proofs.draw.Goals as goal

pub returns-then-more-drawn : goal.returns-then-more-drawn
returns-then-more-drawn c = search (rules, none_drawn)

pub returns : goal.returns
returns c = some_drawn c.draw_all-more.ensures (sym (length-take-le _ _ (omega arith))) c.remaining-kept.ensures.1 c.store.ensures

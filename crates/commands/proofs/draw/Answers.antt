-- `commands::draw` draws the entries of a condition that hold: those that are flagged, where a disjunct holds at all.
use mathlib.Core.Path.{refl}
use borrow.Author.Rules.{rules}
use Rattle.commands.proofs.Drawing.{none_of, flags_drawn, draw_none, draw_end}
use Rattle.commands.proofs.draw.Goals as goal

pub returns-then-none_set : goal.returns-then-none_set
returns-then-none_set c =
    record {
      limits = refl;
      area = refl;
      bytes = refl;
      draws = draw_none _ _ _ _ c.holding-judged.ensures c.requires.all_given (none_of c.none_set.ensures) c.if-none_set.true;
    }

pub returns : goal.returns
returns c =
    record {
      limits = refl;
      area = refl;
      bytes = refl;
      draws = draw_end (flags_drawn _ _ _ _ _ c.holding-judged.ensures _ _ _ c.requires.all_given c.held_flags-flags.ensures) c.draw-counts.ensures;
    }

pub draw-counts-requires : goal.draw-counts-requires
draw-counts-requires c = (c.requires.long.0, c.requires.long.1, search rules)

-- `listing::chained_lines` prints the waiting entries, by rising condition.
use Rattle.index.specs.Views.{catalogue_of}
use Rattle.text.specs.Writing.{Writes}
use Rattle.line_fields.specs.Listed.{entries_waiting, texts, condition_text}
use Rattle.listing.proofs.chained_lines.Given as goal

abbrev pub invariant-loop-c : goal.invariant-loop-c
invariant-loop-c l = Writes l.initial.writer l.writer (texts (condition_text (catalogue_of l.catalogue) (entries_waiting l.state l.w) l.state.used.waiting) l.c)

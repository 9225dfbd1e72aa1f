-- `blocking::Listing::note_shared` notes ranges that each disjunct of a condition has.
use Rattle.blocking.proofs.Sharing.{noted_leaf, noted_and}
use Rattle.blocking.proofs.Listing.note_shared.Goals as goal

pub returns-in-And : goal.returns-in-And
returns-in-And c = noted_and _ _ c.args.conditions.now.sized c.requires.x_lt_conditions c.in-And.ensures c.requires.listed

pub returns-then-range-lt512 : goal.returns-then-range-lt512
returns-then-range-lt512 c = noted_leaf _ _ _ c.in-Range.ensures c.requires.listed c.if-range-lt512.true

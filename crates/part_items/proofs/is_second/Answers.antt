use Rattle.std.proofs.Common.{rules}
use Rattle.part_items.proofs.Search.{second_searched, second_known, second_unset}
use Rattle.part_items.proofs.is_second.Goals as goal
use Rattle.part_items.proofs.is_second.Goals.{then-has_flag, else-has_flag}

pub returns-then-not-is_of : goal.returns-then-not-is_of
returns-then-not-is_of c = elim c.if-has_flag.branch [
  | then-has_flag w ↦ second_searched _ _ _ _ _ c.has_flag.ensures (search rules) _ _ (rw (c.as_tables.ensures.counts, c.as_tables.ensures.area)) _ c.has_such.ensures
  | else-has_flag w ↦ absurd (cc)
]

pub returns-else-not-is_of : goal.returns-else-not-is_of
returns-else-not-is_of c = elim c.if-has_flag.branch [ then-has_flag w ↦ search (rules, second_known) | else-has_flag w ↦ search (rules, second_unset) ]

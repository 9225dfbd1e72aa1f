-- `parts::add_if` adds the clause of a part that is one of these.
use Rattle.parts.proofs.Clauses.{selected_known, adding_selected, adding_other}
use Rattle.parts.proofs.add_if.Goals as goal

pub add_part-requires-clause-known_unless_full : goal.add_part-requires-clause-known_unless_full
add_part-requires-clause-known_unless_full c = selected_known _ _ _ _ _ c.requires.known_unless_full c.requires.p_lt_parts c.selects.ensures c.if-selects.true

pub returns-then-selects : goal.returns-then-selects
returns-then-selects c = adding_selected _ _ _ _ c.selects.ensures c.if-selects.true c.add_part.ensures

pub returns-else-selects : goal.returns-else-selects
returns-else-selects c = adding_other _ _ _ _ c.selects.ensures c.if-selects.false

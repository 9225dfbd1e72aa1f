-- `is_non_matching` compares the names, and looks the part up in the marks.
use borrow.Author.Rules.{rules}
use Rattle.index.proofs.NonMatching.{non_matching_other, non_matching_here}
use Rattle.index.proofs.building.Building.is_non_matching.Goals as goal

pub returns-then-part_name-range_name : goal.returns-then-part_name-range_name
returns-then-part_name-range_name c = search (rules, non_matching_here)

pub returns-else-part_name-range_name : goal.returns-else-part_name-range_name
returns-else-part_name-range_name c = search (rules, non_matching_other)

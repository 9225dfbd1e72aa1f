use borrow.Author.Rules.{rules}
use Rattle.index.proofs.NonMatching.{others_passed, search_on, search_found, search_ended}
use Rattle.index.proofs.building.Building.find_non_matching.Goals as goal

pub loop-part-init : goal.loop-part-init
loop-part-init c =
    let f = rw (c.tables-tables.ensures.counts, c.tables-tables.ensures.area) at c.first-part.ensures in
    let n = rw (c.tables-tables.ensures.counts, c.tables-tables.ensures.area) at c.range_name-name.ensures in
    search (rules, others_passed)

pub returns-then-is_non_matching : goal.returns-then-is_non_matching
returns-then-is_non_matching c = search (rules, search_found)

pub returns : goal.returns
returns c = search (rules, search_ended)

pub loop-part-preserved : goal.loop-part-preserved
loop-part-preserved c =
    let f = rw (c.tables-tables.ensures.counts, c.tables-tables.ensures.area) at c.next-part.ensures in
    let n = rw (c.tables-tables.ensures.counts, c.tables-tables.ensures.area) at c.range_name-name.ensures in
    search (rules, search_on)

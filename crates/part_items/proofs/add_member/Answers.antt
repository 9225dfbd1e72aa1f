use Rattle.std.proofs.Common.{rules}
use Rattle.part_items.proofs.Items.{member_rangeless, member_partless, member_other_name, member_twice_law, member_entered}
use Rattle.part_items.proofs.add_member.Goals as goal

pub returns-then-tables-range-clause-entered : goal.returns-then-tables-range-clause-entered
returns-then-tables-range-clause-entered c n u = search (rules, member_rangeless)

pub returns-then-tables-part-clause-entered : goal.returns-then-tables-part-clause-entered
returns-then-tables-part-clause-entered c n u = search (rules, member_partless)

pub returns-then-part_name-range_name-clause-entered : goal.returns-then-part_name-range_name-clause-entered
returns-then-part_name-range_name-clause-entered c n u = search (rules, member_other_name)

pub returns-then-marked-clause-entered : goal.returns-then-marked-clause-entered
returns-then-marked-clause-entered c n u =
    let f = rw c.as_marks.ensures at c.marked.ensures in
    search (rules, member_twice_law)

pub returns-clause-entered : goal.returns-clause-entered
returns-clause-entered c n u =
    let f = rw c.as_marks.ensures at c.marked.ensures in
    search (rules, member_entered)

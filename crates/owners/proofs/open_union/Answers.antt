use borrow.Author.Rules.{rules}
use Rattle.owners.proofs.Names.{member_is, opened_start, union_range, opened_step, opened_end}
use Rattle.owners.proofs.open_union.Goals as goal
use Rattle.owners.proofs.open_union.Goals.{then-not-is_open, else-not-is_open}

pub loop-i-init : goal.loop-i-init
loop-i-init c = search (rules, opened_start)

pub is_open-requires-clause-r_lt_ranges : goal.is_open-requires-clause-r_lt_ranges
is_open-requires-clause-r_lt_ranges c = union_range c.loop-i.invariant _ c.args.catalogue.now.formed c.requires.u_lt_unions c.loop-i-test.true (member_is _ _ c.as_members.ensures.area c.as_members.ensures.count c.at-member.ensures)

pub loop-i-preserved : goal.loop-i-preserved
loop-i-preserved c =
    elim c.if-not-is_open.branch [
      | then-not-is_open w ↦ rw w.state-is (opened_step c.loop-i.invariant _ c.loop-i-test.true (member_is _ _ c.as_members.ensures.area c.as_members.ensures.count c.at-member.ensures) w.open_range.ensures c.next_of_union-i.ensures)
      | else-not-is_open w ↦ rw w.state-is (opened_step c.loop-i.invariant _ c.loop-i-test.true (member_is _ _ c.as_members.ensures.area c.as_members.ensures.count c.at-member.ensures) (c.is_open.ensures w.if-not-is_open.false) c.next_of_union-i.ensures)
    ]

pub open_range-requires-clause-r_lt_ranges : goal.open_range-requires-clause-r_lt_ranges
open_range-requires-clause-r_lt_ranges c = union_range c.loop-i.invariant _ c.args.catalogue.now.formed c.requires.u_lt_unions c.loop-i-test.true (member_is _ _ c.as_members.ensures.area c.as_members.ensures.count c.at-member.ensures)

pub returns : goal.returns
returns c = opened_end c.loop-i.invariant c.loop-i-test.false

use Rattle.index.proofs.Given.{catalogued}
use borrow.Author.Rules.{rules}
use Rattle.goals.proofs.Hand.{member_is, gather_start, gather_low, gather_step, gather_end}
use Rattle.goals.proofs.gather_union.Goals as goal

pub loop-i-init : goal.loop-i-init
loop-i-init c = search (rules, gather_start)

pub note-count-requires : goal.note-count-requires
note-count-requires c = search (rules, gather_low, member_is)

pub loop-i-preserved : goal.loop-i-preserved
loop-i-preserved c =
    gather_step _ _ _ _ _ (catalogued c.args.catalogue.now) c.loop-i.invariant _ c.loop-i-test.true
    (member_is _ _ c.as_members.ensures.area c.as_members.ensures.count c.at-member.ensures) c.note-count.ensures c.next_of_union-i.ensures

pub returns : goal.returns
returns c = search (rules, gather_end)

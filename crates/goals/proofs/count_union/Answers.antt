use Rattle.index.proofs.Given.{catalogued}
use borrow.Author.Rules.{rules}
use Rattle.goals.proofs.Counting.{counting_start, counting_step, counting_full, counting_end}
use Rattle.goals.proofs.Hand.{member_is}
use Rattle.goals.proofs.count_union.Goals as goal

pub loop-i-init : goal.loop-i-init
loop-i-init c = search (rules, counting_start)

pub returns-then-total-most : goal.returns-then-total-most
returns-then-total-most c = counting_full _ _ _ _ _ _ (catalogued c.args.catalogue.now) c.loop-i.invariant c.loop-i-test.true _ (member_is _ _ c.as_members.ensures.area c.as_members.ensures.count c.at-member.ensures) c.matching_count-total.ensures c.if-total-most.true

pub returns : goal.returns
returns c = search (rules, counting_end)

pub loop-i-preserved : goal.loop-i-preserved
loop-i-preserved c = search (rules, counting_step, member_is)

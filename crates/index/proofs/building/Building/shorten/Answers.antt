use borrow.Author.Rules.{rules}
use Rattle.index.proofs.Steps.{shortened_begun, shortened_asked, shortened_on}
use Rattle.index.proofs.building.Building.shorten.Goals as goal

pub loop-i-init : goal.loop-i-init
loop-i-init c = search (rules, shortened_begun)

pub pass_row-last-requires : goal.pass_row-last-requires
pass_row-last-requires c = (search rules, shortened_asked c.loop-i.invariant)

pub loop-i-preserved : goal.loop-i-preserved
loop-i-preserved c = shortened_on _ c.loop-i.invariant c.pass_row-last.ensures.passed c.pass_row-last.ensures.others c.next-i-in-loop-i.ensures

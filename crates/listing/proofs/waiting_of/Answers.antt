use borrow.Author.Rules.{rules}
use Rattle.listing.proofs.Linking.{walking_here, walking_start, walking_less, walking_step, walking_end}
use Rattle.listing.proofs.waiting_of.Goals as goal

pub loop-i-init : goal.loop-i-init
loop-i-init c = search (rules, walking_start)

pub waiting_line-requires-clause-c_lt_conditions : goal.waiting_line-requires-clause-c_lt_conditions
waiting_line-requires-clause-c_lt_conditions c = (search rules, search rules, search (rules, walking_here))

pub loop-i-smaller : goal.loop-i-smaller
loop-i-smaller c = search (rules, walking_less)

pub loop-i-preserved : goal.loop-i-preserved
loop-i-preserved c = search (rules, walking_step)

pub returns : goal.returns
returns c = search (rules, walking_end)

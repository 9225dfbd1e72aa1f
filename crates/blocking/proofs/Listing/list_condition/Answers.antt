use borrow.Author.Rules.{rules}
use Rattle.blocking.proofs.Lists.{listing_start, listing_step, listing_end}
use Rattle.blocking.proofs.Listing.list_condition.Goals as goal

pub loop-i-init : goal.loop-i-init
loop-i-init c = search (rules, listing_start)

pub loop-i-preserved : goal.loop-i-preserved
loop-i-preserved c = search (rules, listing_step)

pub returns : goal.returns
returns c = search (rules, listing_end)

-- `tracking::bit`: is bit j of a number set?
use borrow.Author.Rules.{rules}
use Rattle.tracking.proofs.Helpers.{bit_is}
use Rattle.tracking.proofs.bit.Goals as goal

pub returns : goal.returns
returns c = search (rules, bit_is)

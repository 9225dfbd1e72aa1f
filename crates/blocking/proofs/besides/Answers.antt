-- `blocking::besides` sets the bit of a range's class.
use borrow.Author.Rules.{rules}
use Rattle.blocking.proofs.Classes.{besides_is}
use Rattle.blocking.proofs.besides.Goals as goal

pub returns : goal.returns
returns c = search (rules, besides_is)

-- `checking::clear` leaves an area as `work_area` says.
use borrow.Author.Rules.{rules}
use Rattle.checking.proofs.Areas.{cleared}
use Rattle.checking.proofs.clear.Goals as goal

pub returns : goal.returns
returns c = search (rules, cleared)

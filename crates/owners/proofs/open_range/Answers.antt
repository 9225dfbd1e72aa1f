-- `owners::open_range` opens the name of a range.
use borrow.Author.Rules.{rules}
use Rattle.owners.proofs.Names.{range_low, range_opened}
use Rattle.owners.proofs.open_range.Goals as goal

pub open_name-requires-clause-name_bound : goal.open_name-requires-clause-name_bound
open_name-requires-clause-name_bound c = search (rules, range_low)

pub returns : goal.returns
returns c = range_opened _ _ _ _ _ _ c.range_name.ensures c.open_name.ensures

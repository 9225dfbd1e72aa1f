-- `naming::range_candidates`: the favoured candidates of a range are named, then the others.
use Rattle.naming.proofs.Ranges.{candidates_named}
use Rattle.naming.proofs.range_candidates.Goals as goal

pub returns : goal.returns
returns c = candidates_named _ c.name_each.ensures c.name_each-2.ensures

-- `owners::is_open` says so only of a range whose name is open.
use Rattle.owners.proofs.Names.{range_open}
use Rattle.owners.proofs.is_open.Goals as goal

pub returns : goal.returns
returns c = λ e. range_open _ _ _ _ _ _ c.range_name.ensures c.requires.good c.lists.ensures e

-- `owners::serve_known` takes the four rules of a known owner.
use Rattle.owners.proofs.Rules.{known_served}
use Rattle.owners.proofs.serve_known.Goals as goal

pub returns : goal.returns
returns c = known_served _ c.requires.known c.take_each.ensures c.take_each-2.ensures c.take_each-3.ensures c.take_each-4.ensures

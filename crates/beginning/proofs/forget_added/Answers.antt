-- `beginning::forget_added` empties the list of the added owners.
use mathlib.Core.Path.{refl}
use Rattle.beginning.proofs.Begin.{forgotten}
use Rattle.beginning.proofs.forget_added.Goals as goal

pub returns : goal.returns
returns c = record { limits = refl; area = refl; did = forgotten _ _ c.clear.ensures }

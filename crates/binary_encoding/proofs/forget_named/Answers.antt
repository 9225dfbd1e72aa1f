-- `binary_encoding::forget_named` empties the list of named parts.
use mathlib.Core.Path.{refl}
use Rattle.binary_encoding.proofs.Track.{forgotten}
use Rattle.binary_encoding.proofs.forget_named.Goals as goal

pub returns : goal.returns
returns c = record { does = record { limits = refl; area = refl; did = forgotten _ _ c.clear.ensures } }

-- `beginning::empty_line` counts one run more, with nothing drawn and an empty line.
use mathlib.Core.Path.{refl}
use Rattle.beginning.specs.Beginning.{emptied}
use Rattle.beginning.proofs.empty_line.Goals as goal

pub returns : goal.returns
unfolding emptied
returns c = record { limits = refl; area = refl; same = refl; used = refl }

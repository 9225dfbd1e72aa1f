-- `encoder::filled` sets the mark that a limit would be passed.
use mathlib.Core.Path.{refl}
use Rattle.encoder.specs.Did.{filled}
use Rattle.encoder.proofs.filled.Goals as goal

pub returns : goal.returns
unfolding filled
returns c = refl

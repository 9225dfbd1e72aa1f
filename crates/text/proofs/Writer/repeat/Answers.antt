-- `text::Writer::repeat` writes what stands already once more, if it fits.
use mathlib.Core.Path.{refl}
use native.Mathlib.Omega.{arith}
use Rattle.text.proofs.Laws.{repeated}
use Rattle.text.proofs.Writer.repeat.Goals as goal

pub returns : goal.returns
returns c = repeated _ _ _ _ refl refl c.copy.ensures (omega (arith, c.args.self.now.addressable)) (omega arith)

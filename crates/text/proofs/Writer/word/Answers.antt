-- `text::Writer::word` meets its contract, by what there is room for.
use mathlib.Core.Path.{refl}
use native.Mathlib.Omega.{arith}
use Rattle.text.proofs.Laws.{counted, at_once}
use Rattle.text.proofs.Writer.word.Goals as goal

pub returns-then-end-min : goal.returns-then-end-min
returns-then-end-min c =
    at_once _ _ refl refl _ (omega (arith, c.args.self.now.addressable)) (omega arith) _ c.copy_bytes.ensures refl (omega arith)

pub returns-then-length-eq0 : goal.returns-then-length-eq0
returns-then-length-eq0 c = counted _ _ refl refl _ (omega (arith, c.args.self.now.addressable)) (omega arith) refl c.if-length-eq0.true

-- `text::Writer::number_behind` meets its contract, by what there is room for.
use mathlib.Core.Path.{refl}
use native.Mathlib.Omega.{arith}
use lib.ListN.{length-append}
use Rattle.rules.specs.Listing.{decimal}
use Rattle.text.proofs.Laws.{counted, in_two}
use Rattle.text.proofs.Writing.{then}
use Rattle.text.proofs.Writer.number_behind.Goals as goal

pub returns-then-end-min : goal.returns-then-end-min
returns-then-end-min c =
    in_two _ _ refl refl _ _ _ _ _ c.copy_from_slice.ensures.after c.digits.ensures refl
    (omega (arith, c.args.self.now.addressable))
    (omega (arith, c.args.self.now.addressable))
    (omega arith)
    (omega arith)

pub returns-then-length-eq0 : goal.returns-then-length-eq0
returns-then-length-eq0 c =
    counted _ _ refl refl _ (omega (arith, c.args.self.now.addressable, length-append c.args.lead.now (decimal c.args.n))) (omega arith) refl c.if-length-eq0.true

pub returns-else-end-self : goal.returns-else-end-self
returns-else-end-self c = then c.byte_by_byte.ensures c.digit_by_digit.ensures

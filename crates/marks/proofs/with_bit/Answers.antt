-- `marks::with_bit` gives the byte with bit j set and the others as they were; the sum fits a byte.
use borrow.Author.Rules.{rules}
use Rattle.marks.proofs.Laws.{bit_stays, bit_added, bit_fits}
use Rattle.marks.proofs.with_bit.Goals as goal

pub returns-then-has : goal.returns-then-has
returns-then-has c = bit_stays _ _ _ c.has.ensures c.if-has.true

pub returns : goal.returns
returns c = bit_added _ _ _ _ c.has.ensures c.if-has.false c.power_of.ensures

pub overflow_add-result : goal.overflow_add-result
overflow_add-result c = search (rules, bit_fits)

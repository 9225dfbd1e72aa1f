-- `marks::has` gives bit j of a byte.
use borrow.Author.Rules.{rules}
use Rattle.marks.proofs.Bits.{bit_is}
use Rattle.marks.proofs.has.Goals as goal

pub returns : goal.returns
returns c = search (rules, bit_is)

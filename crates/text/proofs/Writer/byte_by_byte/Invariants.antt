-- `text::Writer::byte_by_byte` meets its contract. The invariant: the first bytes are written.
use lib.ListN.{take}
use Rattle.text.specs.Writing.{Writes}
use Rattle.text.proofs.Writer.byte_by_byte.Given as goal

abbrev pub invariant-loop-byte : goal.invariant-loop-byte
invariant-loop-byte l = Writes l.initial.self l.self (take l.byte-index l.bytes)

-- `text::copy_bytes` copies byte by byte. The invariant: the first i bytes are those of `from`.
use Rattle.std.proofs.Common.{◌≡◌, length, take}
use Rattle.text.proofs.copy_bytes.Given as goal

abbrev pub invariant-loop-i : goal.invariant-loop-i
invariant-loop-i l = record { long : length l.to ≡ length l.from; front : take l.i l.to ≡ take l.i l.from }

-- `carried::set_flag` sets a flag; past the flags it sets none.
use mathlib.Core.Path.{sym}
use Rattle.std.proofs.lemmas.List.{set_past}
use Rattle.carried.proofs.set_flag.Goals as goal

pub returns-else-i-flags : goal.returns-else-i-flags
returns-else-i-flags c = sym (set_past _ _ _ c.if-i-flags.false)

use native.Mathlib.Omega.{arith}
use Rattle.std.specs.Prelude.{◌≡◌, ◌/◌, ◌%◌}
use Rattle.words.specs.Words.{words_set}
use Rattle.words.proofs.put.Goals as goal

pub returns : goal.returns
returns c =
    let e : c.args.v / 256 % 256 ≡ c.args.v / 256 = omega arith in
    rw (c.to_le_bytes.ensures, e) (words_set c.args.s.now c.args.i c.args.v)

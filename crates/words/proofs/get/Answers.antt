use native.Mathlib.Omega.{arith}
use Rattle.words.specs.Words.{words_at, words_in}
use Rattle.words.proofs.get.Goals as goal

pub returns : goal.returns
returns c = omega (arith, words_at c.args.s.now c.args.i (words_in _ _ c.requires), c.from_le_bytes.ensures)

use Rattle.words.specs.Words.{words_out}
use Rattle.words.proofs.at.Goals as goal

pub returns-else-i-s : goal.returns-else-i-s
returns-else-i-s c = let a = c.args in words_out a.s.now a.i c.if-i-s.false

use borrow.Author.Rules.{rules}
use Rattle.text.proofs.Laws.{word_step}
use Rattle.text.proofs.Writer.byte_by_byte.Goals as goal

pub loop-byte-preserved : goal.loop-byte-preserved
loop-byte-preserved c = search (rules, word_step)

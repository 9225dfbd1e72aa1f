use borrow.Author.Rules.{rules}
use Rattle.marks.proofs.Laws.{ended_start, byte_before, bit_before, all_before}
use Rattle.marks.proofs.Marks.end.Goals as goal

pub loop-p-init : goal.loop-p-init
loop-p-init c = ended_start _ _ _

pub loop-p-preserved-then-x-eq0 : goal.loop-p-preserved-then-x-eq0
loop-p-preserved-then-x-eq0 c = search (rules, byte_before)

pub loop-p-preserved : goal.loop-p-preserved
loop-p-preserved c = search (rules, bit_before)

pub returns : goal.returns
returns c = search (rules, all_before)

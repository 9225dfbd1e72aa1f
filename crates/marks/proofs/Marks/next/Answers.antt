use borrow.Author.Rules.{rules}
use Rattle.marks.proofs.Laws.{passed_start, byte_passed, bit_passed, member_found, none_found}
use Rattle.marks.proofs.Marks.next.Goals as goal

pub loop-p-init : goal.loop-p-init
loop-p-init c = passed_start _ _ _

pub loop-p-preserved-then-x-eq0 : goal.loop-p-preserved-then-x-eq0
loop-p-preserved-then-x-eq0 c = search (rules, byte_passed)

pub loop-p-preserved : goal.loop-p-preserved
loop-p-preserved c = search (rules, bit_passed)

pub returns-then-has : goal.returns-then-has
returns-then-has c = search (rules, member_found)

pub returns : goal.returns
returns c = search (rules, none_found)

use borrow.Author.Rules.{rules}
use Rattle.unions.proofs.Laws.{none_start, none_passed, next_found, none_end}
use Rattle.unions.proofs.Members.next_of.Goals as goal

pub loop-i-init : goal.loop-i-init
loop-i-init c = search (rules, none_start)

pub returns-then-get-union : goal.returns-then-get-union
returns-then-get-union c = search (rules, next_found)

pub returns : goal.returns
returns c = search (rules, none_end)

pub loop-i-preserved : goal.loop-i-preserved
loop-i-preserved c = search (rules, none_passed)

use borrow.Author.Rules.{rules}
use Rattle.opening.proofs.Several.{sought_start, sought_found, sought_more, sought_end}
use Rattle.opening.proofs.is_several.Goals as goal

pub loop-i-init : goal.loop-i-init
loop-i-init c = search (rules, sought_start)

pub returns-then-get-name : goal.returns-then-get-name
returns-then-get-name c = search (rules, sought_found)

pub returns : goal.returns
returns c = search (rules, sought_end)

pub loop-i-preserved : goal.loop-i-preserved
loop-i-preserved c = search (rules, sought_more)

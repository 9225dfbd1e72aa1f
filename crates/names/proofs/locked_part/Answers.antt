use borrow.Author.Rules.{rules}
use Rattle.names.proofs.Locked.{locked_first, locked_found, locked_next, locked_end}
use Rattle.names.proofs.locked_part.Goals as goal

pub loop-p-init : goal.loop-p-init
loop-p-init c = search (rules, locked_first)

pub returns-then-selects : goal.returns-then-selects
returns-then-selects c = search (rules, locked_found)

pub returns : goal.returns
returns c = search (rules, locked_end)

pub loop-p-preserved : goal.loop-p-preserved
loop-p-preserved c = search (rules, locked_next)

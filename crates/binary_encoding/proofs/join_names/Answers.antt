use borrow.Author.Rules.{rules}
use Rattle.encoder.proofs.Did.{told_full, told_going}
use Rattle.binary_encoding.proofs.Names.{naming_start, naming_stop, naming_step, naming_end}
use Rattle.binary_encoding.proofs.join_names.Goals as goal

pub loop-i-init : goal.loop-i-init
loop-i-init c = search (rules, naming_start)

pub returns-then-state-ne0 : goal.returns-then-state-ne0
returns-then-state-ne0 c = search (rules, naming_stop, told_full c.if-state-ne0.true)

pub returns : goal.returns
returns c = search (rules, naming_end)

pub loop-i-preserved : goal.loop-i-preserved
loop-i-preserved c = search (rules, naming_step, told_going c.if-state-ne0.false)

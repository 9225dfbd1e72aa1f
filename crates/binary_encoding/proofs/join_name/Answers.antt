use borrow.Author.Rules.{rules}
use Rattle.encoder.proofs.Did.{told_full, told_going}
use Rattle.binary_encoding.proofs.Names.{parting_start, parting_low, parting_stop, parting_step, parting_end}
use Rattle.binary_encoding.proofs.join_name.Goals as goal

pub loop-i-init : goal.loop-i-init
loop-i-init c = search (rules, parting_start)

pub join_if-requires-clause-p_bound : goal.join_if-requires-clause-p_bound
join_if-requires-clause-p_bound c = search (rules, parting_low)

pub returns-then-state-ne0 : goal.returns-then-state-ne0
returns-then-state-ne0 c = search (rules, parting_stop, told_full c.if-state-ne0.true)

pub returns : goal.returns
returns c = search (rules, parting_end)

pub loop-i-preserved : goal.loop-i-preserved
loop-i-preserved c = search (rules, parting_step, told_going c.if-state-ne0.false)

use Rattle.encoder.proofs.Did.{told_full, told_going}
use Rattle.binary_encoding.proofs.Links.{linked_start, linked_place, linked_stop, linked_step, linked_end}
use Rattle.binary_encoding.proofs.link_all.Goals as goal

pub loop-y-init : goal.loop-y-init
loop-y-init c = linked_start _ _ _ _ _ _ _ c.requires.long_enough c.requires.good c.requires.can_link

pub link_if-requires-clause-y_lt_variables : goal.link_if-requires-clause-y_lt_variables
link_if-requires-clause-y_lt_variables c = linked_place c.loop-y.invariant c.loop-y-test.true

pub returns-then-state-ne0 : goal.returns-then-state-ne0
returns-then-state-ne0 c = linked_stop c.loop-y.invariant c.loop-y-test.true c.link_if.ensures (told_full c.if-state-ne0.true)

pub returns : goal.returns
returns c = linked_end c.loop-y.invariant c.loop-y-test.false

pub loop-y-preserved : goal.loop-y-preserved
loop-y-preserved c = linked_step c.loop-y.invariant c.loop-y-test.true c.link_if.ensures (told_going c.if-state-ne0.false) c.link_if.auto.clauses

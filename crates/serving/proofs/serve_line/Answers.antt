use borrow.Author.Rules.{rules}
use native.Mathlib.Omega.{arith}
use Rattle.encoder.proofs.Did.{told_full, told_going}
use Rattle.serving.proofs.Line.{passed_start, passed_room, passed_given, passed_next, passed_stop, passed_end}
use Rattle.serving.proofs.serve_line.Goals as goal

pub loop-head-init : goal.loop-head-init
loop-head-init c = (passed_start c.requires.good c.requires.long_enough c.requires.marked.0 c.requires.begun, c.requires.flagged)

pub returns-then-state-ne0-clause-serves_line : goal.returns-then-state-ne0-clause-serves_line
returns-then-state-ne0-clause-serves_line c = passed_stop c.loop-head.invariant.0 (told_full c.if-state-ne0.true)

pub returns-clause-serves_line : goal.returns-clause-serves_line
returns-clause-serves_line c = passed_end c.loop-head.invariant.0 c.loop-head-test.false

pub serve_next-requires-clause-task_given : goal.serve_next-requires-clause-task_given
serve_next-requires-clause-task_given c = passed_given c.loop-head.invariant.0 (told_going c.if-state-ne0.false) c.loop-head-test.true

pub serve_next-requires-clause-number_nonzero : goal.serve_next-requires-clause-number_nonzero
serve_next-requires-clause-number_nonzero c = (c.requires.marked.1, c.loop-head.invariant.0.few, c.loop-head.invariant.0.none, c.loop-head-test.true)

pub overflow_add-head : goal.overflow_add-head
overflow_add-head c = omega (arith, c.loop-head-test.true, c.loop-head.invariant.0.good.state.room, c.loop-head.invariant.0.long.waiting)

pub loop-head-smaller : goal.loop-head-smaller
loop-head-smaller c = omega (arith, c.loop-head-test.true, passed_room c.loop-head.invariant.0)

pub loop-head-preserved : goal.loop-head-preserved
loop-head-preserved c = (passed_next c.loop-head.invariant.0 (told_going c.if-state-ne0.false) c.loop-head-test.true c.serve_next.ensures.serves (search rules) (search rules), c.serve_next.ensures.flagged_2)

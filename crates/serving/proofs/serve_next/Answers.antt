-- `serving::serve_next` serves the task at the head of the line.
use native.Mathlib.Omega.{arith}
use Rattle.serving.specs.Line.{from}
use Rattle.serving.proofs.Passing.{good_from, served_next}
use Rattle.serving.proofs.Flags.{flagged_from}
use Rattle.serving.proofs.serve_next.Goals as goal

pub overflow_add-state : goal.overflow_add-state
overflow_add-state c = omega (arith, c.requires.number_nonzero.3)

pub serve_task-requires-clause-good : goal.serve_task-requires-clause-good
serve_task-requires-clause-good c = unfold from in good_from c.requires.number_nonzero.3 c.requires.good

pub serve_task-requires-clause-task_given : goal.serve_task-requires-clause-task_given
serve_task-requires-clause-task_given c = rw c.task_at-task.ensures c.requires.task_given

pub serve_task-requires-clause-number_nonzero : goal.serve_task-requires-clause-number_nonzero
serve_task-requires-clause-number_nonzero c = let q = c.requires.number_nonzero in
    (q.0, q.1, q.2)

pub serve_task-requires-clause-flagged : goal.serve_task-requires-clause-flagged
serve_task-requires-clause-flagged c = unfold from in flagged_from _ c.requires.flagged

pub returns-clause-serves : goal.returns-clause-serves
returns-clause-serves c =
    let d = c.serve_task.ensures.alike_does in
    record { limits = d.limits; area = d.area; serves = served_next _ _ _ c.task_at-task.ensures (unfold from in d.did) }

use Rattle.encoder.proofs.Does.{long_then}
use Rattle.parts.proofs.Clauses.{adding_first, adding_end}
use Rattle.constraints.proofs.OutsideLaws.{outside_skips, can_out, appended, still_added, left_added}
use Rattle.constraints.proofs.outside.add_outs.Goals as goal
use Rattle.constraints.proofs.outside.add_outs.Goals.{then-not-append_next, else-not-append_next}

pub loop-p-init : goal.loop-p-init
loop-p-init c = adding_first c.requires.good c.requires.known_unless_full (outside_skips _ _ c.first_chosen-p.ensures)

pub append_next-requires-clause-long_enough : goal.append_next-requires-clause-long_enough
append_next-requires-clause-long_enough c = long_then c.loop-p.invariant.does.limits c.loop-p.invariant.same_clauses c.requires.long_enough

pub add_if-requires-clause-good : goal.add_if-requires-clause-good
add_if-requires-clause-good c = (still_added _ c.loop-p.invariant c.append_next.ensures c.if-not-append_next.true).good

pub add_if-requires-clause-known_unless_full : goal.add_if-requires-clause-known_unless_full
add_if-requires-clause-known_unless_full c = (still_added _ c.loop-p.invariant c.append_next.ensures c.if-not-append_next.true).known

pub add_if-requires-clause-long_enough : goal.add_if-requires-clause-long_enough
add_if-requires-clause-long_enough c =
    let a = still_added _ c.loop-p.invariant c.append_next.ensures c.if-not-append_next.true in long_then a.does.limits a.same_clauses c.requires.long_enough

pub add_if-requires-clause-can_add : goal.add_if-requires-clause-can_add
add_if-requires-clause-can_add c =
    let a = still_added _ c.loop-p.invariant c.append_next.ensures c.if-not-append_next.true in can_out a.does.limits c.requires.number_nonzero.0 c.requires.number_nonzero.1

pub loop-p-preserved : goal.loop-p-preserved
loop-p-preserved c = elim c.if-not-append_next.branch [
  | then-not-append_next w ↦ rw (w.state-is, w.clauses-is)
      (left_added _ c.loop-p.invariant c.append_next.ensures w.if-not-append_next.true c.loop-p-test.true w.add_if.auto.clauses w.add_if.ensures c.next_outside-p.ensures)
  | else-not-append_next w ↦ rw (w.state-is, w.clauses-is)
      (appended _ c.loop-p.invariant c.append_next.ensures w.if-not-append_next.false c.loop-p-test.true c.append_next.auto.clauses c.next_outside-p.ensures)
]

pub returns : goal.returns
returns c = adding_end _ _ _ _ c.loop-p.invariant c.loop-p-test.false

use borrow.Author.Rules.{rules}
use Rattle.encoder.proofs.Did.{told_full, told_going}
use Rattle.tracking.proofs.Parts.{walking_place, linking_start, linking_pass, linking_stop, linking_step, linking_end}
use Rattle.tracking.proofs.any_clauses.Goals as goal
use Rattle.tracking.proofs.any_clauses.Goals.{then-is_of+else-state-ne0, else-is_of}

pub loop-at-init : goal.loop-at-init
loop-at-init c = search (rules, linking_start)

pub is_of-requires : goal.is_of-requires
is_of-requires c = walking_place c.loop-at.invariant.walk c.loop-at-test.true

pub any_clause-requires-clause-y_lt_variables : goal.any_clause-requires-clause-y_lt_variables
any_clause-requires-clause-y_lt_variables c =
    let walk = c.loop-at.invariant.walk in
    (rw walk.areas.limits c.requires.y_lt_variables, walking_place walk c.loop-at-test.true)

pub returns : goal.returns
returns c = search (rules, linking_end)

pub returns-then-state-ne0 : goal.returns-then-state-ne0
returns-then-state-ne0 c = linking_stop c.loop-at.invariant c.loop-at-test.true c.is_of.ensures c.if-is_of.true c.any_clause.ensures (told_full c.if-state-ne0.true)

pub loop-at-preserved : goal.loop-at-preserved
loop-at-preserved c = elim c.if-is_of.branch [
  | then-is_of+else-state-ne0 w ↦ rw (w.state-is, w.clauses-is)
      (linking_step c.loop-at.invariant c.loop-at-test.true c.is_of.ensures w.if-is_of.true w.any_clause.ensures (told_going w.if-state-ne0.false) w.any_clause.auto.clauses)
  | else-is_of w ↦ rw (w.state-is, w.clauses-is) (linking_pass c.loop-at.invariant c.loop-at-test.true c.is_of.ensures w.if-is_of.false)
]

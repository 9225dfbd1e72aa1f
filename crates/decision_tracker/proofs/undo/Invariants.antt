-- `decision_tracker::undo` drops decisions from the end while they are above the level. The invariant: all that were dropped are above it.
use Rattle.decision_tracker.proofs.Laws.{Undoing}
use Rattle.decision_tracker.proofs.undo.Given as goal

abbrev pub invariant-loop-l : goal.invariant-loop-l
invariant-loop-l l = Undoing l.l l.level l.d l.initial.s l.k l.s

abbrev pub decreases-loop-l : goal.decreases-loop-l
decreases-loop-l l = l.k

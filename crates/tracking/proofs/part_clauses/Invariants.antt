-- `tracking::part_clauses` adds a part's clauses for the helpers. The invariant: the first j have theirs.
use Rattle.tracking.proofs.Clauses.{Agreeing}
use Rattle.tracking.proofs.part_clauses.Given as goal

abbrev pub invariant-loop-j : goal.invariant-loop-j
invariant-loop-j l = Agreeing l.run l.x l.i l.helpers l.initial.state l.initial.clauses l.state l.clauses l.j

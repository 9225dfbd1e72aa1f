-- `tracking::helper_clauses` adds a helper's clauses for the tracked parts of a name. The invariant: the parts before `at` have theirs.
use Rattle.tracking.proofs.Parts.{Helping}
use Rattle.tracking.proofs.helper_clauses.Given as goal

abbrev pub invariant-loop-at : goal.invariant-loop-at
invariant-loop-at l = Helping l.tables.counts l.tables.area.now l.run l.name l.y l.j l.initial.state l.initial.clauses l.state l.clauses l.i l.at

-- `tracking::any_clauses` adds the any clauses of a one-of-name variable. The invariant: the parts before `at` have theirs.
use Rattle.tracking.proofs.Parts.{Linking}
use Rattle.tracking.proofs.any_clauses.Given as goal

abbrev pub invariant-loop-at : goal.invariant-loop-at
invariant-loop-at l = Linking l.tables.counts l.tables.area.now l.run l.name l.y l.initial.state l.initial.clauses l.state l.clauses l.at

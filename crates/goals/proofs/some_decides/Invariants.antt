-- `goals::some_decides` tells whether some matching part of a range is decided true. The invariant: none of the first i decisions makes one true.
use Rattle.index.specs.Views.{catalogue_of}
use Rattle.encoder.specs.Assignments.{variables_in, decisions_in}
use Rattle.goals.proofs.ByDecisions.{Unmade}
use Rattle.goals.proofs.some_decides.Given as goal

abbrev pub invariant-loop-i : goal.invariant-loop-i
invariant-loop-i l = Unmade (catalogue_of l.catalogue) (variables_in l.assignment) l.r l.assignment.decisions (decisions_in l.assignment) l.i

-- `blocking::Blocking::bar_some` asks the ranges of a disjunct until one is blocked. The invariant: nothing that was blocked is lost.
use Rattle.index.specs.Views.{catalogue_of}
use Rattle.goals.specs.Goals.{truth_in}
use Rattle.blocking.specs.Blocking.{Grows}
use Rattle.blocking.proofs.Blocking.bar_some.Given as goal

abbrev pub invariant-loop-r : goal.invariant-loop-r
invariant-loop-r l = Grows (catalogue_of l.catalogue) (truth_in l.assignment) l.initial.known l.initial.self l.known l.self

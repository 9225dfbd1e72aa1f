-- `naming::name_disjunct`. The invariant: the disjunct's first j ranges have their variables.
use Rattle.index.specs.Views.{catalogue_of}
use Rattle.naming.specs.Naming.{name_range}
use Rattle.naming.proofs.Loops.{Passed}
use Rattle.naming.proofs.name_disjunct.Given as goal

abbrev pub invariant-loop-range : goal.invariant-loop-range
invariant-loop-range l = Passed (catalogue_of l.catalogue) (name_range (catalogue_of l.catalogue)) l.range-items l.initial.state l.state l.range-index

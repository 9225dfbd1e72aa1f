-- `naming::name_disjuncts`. The invariant: the ranges of the first j disjuncts have their variables.
use Rattle.index.specs.Views.{catalogue_of}
use Rattle.rules.specs.Lists.{fold}
use Rattle.rules.specs.Conditions.{disjunct_at}
use Rattle.naming.specs.Naming.{name_range}
use Rattle.naming.proofs.Loops.{Passed}
use Rattle.naming.proofs.name_disjuncts.Given as goal

abbrev pub invariant-loop-index : goal.invariant-loop-index
invariant-loop-index l = Passed (catalogue_of l.catalogue) (λ i. fold (name_range (catalogue_of l.catalogue)) (disjunct_at (catalogue_of l.catalogue) l.q i)) l.indices l.initial.state l.state l.index-index

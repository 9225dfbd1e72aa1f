-- `handling::add_all_fired` adds the clauses of the fired disjuncts. The invariant: the first j of them have theirs.
use Rattle.index.specs.Views.{catalogue_of}
use Rattle.encoder.specs.Held.{run_of}
use Rattle.handling.proofs.Steps.{Firing}
use Rattle.handling.proofs.add_all_fired.Given as goal

abbrev pub invariant-loop-index : goal.invariant-loop-index
invariant-loop-index l = Firing (catalogue_of l.catalogue) (run_of l.run) l.q l.ranges l.indices l.initial.state l.initial.clauses l.state l.clauses l.index-index

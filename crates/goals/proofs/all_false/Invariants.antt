-- `goals::all_false` tells whether every candidate of the ranges at hand is decided false. The invariant: it is so of all if it is so from range j on.
use Rattle.index.specs.Views.{catalogue_of}
use Rattle.encoder.specs.Does.{regions_of, variables_of, decisions_of}
use Rattle.goals.proofs.Decided.{Refuting}
use Rattle.goals.proofs.all_false.Given as goal

abbrev pub invariant-loop-j : goal.invariant-loop-j
invariant-loop-j l = Refuting (catalogue_of l.catalogue) (variables_of l.state) (decisions_of l.state) l.ranges (regions_of l.state) l.j

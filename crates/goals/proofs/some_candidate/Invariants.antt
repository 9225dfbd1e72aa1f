-- `goals::some_candidate` tells whether a range at hand has a matching part. The invariant: the ranges passed have none.
use Rattle.index.specs.Views.{catalogue_of}
use Rattle.encoder.specs.Does.{regions_of}
use Rattle.goals.proofs.Decided.{Lacking}
use Rattle.goals.proofs.some_candidate.Given as goal

abbrev pub invariant-loop-j : goal.invariant-loop-j
invariant-loop-j l = Lacking (catalogue_of l.catalogue) l.ranges (regions_of l.state) l.j

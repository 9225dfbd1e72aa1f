-- `naming::first_candidates`. The invariant: of the first j ranges at hand one candidate of each name is named.
use Rattle.index.specs.Views.{catalogue_of}
use Rattle.naming.proofs.Firsts.{FirstsPassed}
use Rattle.naming.proofs.first_candidates.Given as goal

abbrev pub invariant-loop-j : goal.invariant-loop-j
invariant-loop-j l = FirstsPassed (catalogue_of l.catalogue) l.ranges l.initial.state l.state l.seen l.j

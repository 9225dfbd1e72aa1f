-- `blocking::Blocking::each_barred` tells that each disjunct of a listed condition has a blocked range. The invariant: each one before disjunct i has.
use Rattle.index.specs.Views.{catalogue_of}
use Rattle.goals.specs.Goals.{truth_in}
use Rattle.blocking.proofs.Bars.{Each}
use Rattle.blocking.proofs.Blocking.each_barred.Given as goal

abbrev pub invariant-loop-i : goal.invariant-loop-i
invariant-loop-i l = Each (catalogue_of l.catalogue) (truth_in l.assignment) l.listing l.i l.initial.known l.initial.self l.known l.self

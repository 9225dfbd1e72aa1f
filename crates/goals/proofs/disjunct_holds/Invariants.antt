-- `goals::disjunct_holds` tells whether a disjunct holds now. The invariant: it does if what is left from range j on does.
use Rattle.index.specs.Views.{catalogue_of, tables_of}
use mathlib.Core.List.{[]}
use lib.ListN.{get_or}
use Rattle.rules.specs.Conditions.{disjuncts}
use Rattle.goals.specs.Goals.{truth_of}
use Rattle.goals.proofs.Decided.{Holding}
use Rattle.goals.proofs.disjunct_holds.Given as goal

abbrev pub invariant-loop-range : goal.invariant-loop-range
invariant-loop-range l = Holding (catalogue_of l.catalogue) (truth_of l.state) (get_or (disjuncts (tables_of l.catalogue).conditions l.c) l.i []) l.range-index

-- `condition_literals::disjunct_literals` puts the literals of a disjunct behind them. The invariant: those of the ranges before place j are there.
use Rattle.index.specs.Views.{catalogue_of}
use Rattle.condition_literals.proofs.Literals.{Collecting}
use Rattle.condition_literals.proofs.disjunct_literals.Given as goal

abbrev pub invariant-loop-range : goal.invariant-loop-range
invariant-loop-range l = Collecting (catalogue_of l.catalogue) l.range-items l.initial.state l.state l.count l.range-index

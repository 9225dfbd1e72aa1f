-- `condition_literals::part_literals` puts a range's non-matching parts behind them. The invariant: those before part p are there.
use Rattle.index.specs.Views.{catalogue_of, counts_of}
use Prim.Native.Nat.{◌-◌}
use Rattle.condition_literals.proofs.Literals.{Going}
use Rattle.condition_literals.proofs.part_literals.Given as goal

abbrev pub invariant-loop-p : goal.invariant-loop-p
invariant-loop-p l = Going (catalogue_of l.catalogue) l.r l.count l.initial.state l.state l.all l.p

abbrev pub decreases-loop-p : goal.decreases-loop-p
decreases-loop-p l = (counts_of l.catalogue).parts - l.p

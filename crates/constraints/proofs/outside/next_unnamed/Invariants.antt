-- `constraints::outside::next_unnamed` finds the next part outside the range that has no variable. The invariant: none was passed.
use Rattle.index.specs.Views.{catalogue_in, counts_in}
use Prim.Native.Nat.{◌-◌}
use Rattle.index.specs.Chains.{Skips}
use Rattle.encoder.specs.Does.{variables_of}
use Rattle.constraints.specs.Outside.{lacks}
use Rattle.constraints.proofs.outside.next_unnamed.Given as goal

abbrev pub invariant-loop-p : goal.invariant-loop-p
invariant-loop-p l = Skips (counts_in l.index).parts (lacks (catalogue_in l.index) (variables_of l.state) l.r) l.from l.p

abbrev pub decreases-loop-p : goal.decreases-loop-p
decreases-loop-p l = (counts_in l.index).parts - l.p

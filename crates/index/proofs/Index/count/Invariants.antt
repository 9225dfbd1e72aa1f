-- `count` gives the length of a choice, or `most`. The invariant: what was counted and what is left from part p on are the whole.
use Prim.Native.Nat.{◌-◌}
use Rattle.index.specs.Views.{catalogue_in, counts_in}
use Rattle.index.proofs.Counting.{Counting}
use Rattle.index.proofs.Index.count.Given as goal

abbrev pub invariant-loop-p : goal.invariant-loop-p
invariant-loop-p l = Counting (catalogue_in l.self) l.range l.choice l.most l.n l.p

abbrev pub decreases-loop-p : goal.decreases-loop-p
decreases-loop-p l = (counts_in l.self).parts - l.p

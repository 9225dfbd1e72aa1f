-- `blocking::watch_parts` watches the matching parts of a range. The invariant: those before part p are watched.
use Rattle.index.specs.Views.{catalogue_of, counts_of}
use Prim.Native.Nat.{◌-◌}
use Rattle.blocking.proofs.Watching.{Watching}
use Rattle.blocking.proofs.watch_parts.Given as goal

abbrev pub invariant-loop-p : goal.invariant-loop-p
invariant-loop-p l = Watching (catalogue_of l.catalogue) l.r l.p l.initial.watched l.watched

abbrev pub decreases-loop-p : goal.decreases-loop-p
decreases-loop-p l = (counts_of l.catalogue).parts - l.p

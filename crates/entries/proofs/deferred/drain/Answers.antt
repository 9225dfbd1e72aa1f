use mathlib.Core.Path.{refl}
use native.Mathlib.Omega.{arith}
use Rattle.entries.proofs.Places.{draining_held, draining_free}
use Rattle.entries.proofs.deferred.drain.Goals as goal
use Rattle.entries.proofs.deferred.drain.Goals.{then-free, else-free}

pub loop-i-preserved : goal.loop-i-preserved
loop-i-preserved c = elim c.if-free.branch [
  | then-free w ↦
      rw (w.es-is, w.to-is)
      (draining_free _ _ _ _ _ (omega arith) c.loop-i.invariant _ _ _ w.if-free.true refl w.push-to.ensures.0 w.push-to.ensures.1)
  | else-free w ↦ rw (w.es-is, w.to-is) (draining_held _ _ _ _ _ (omega arith) c.loop-i.invariant w.if-free.false)
]

use native.Mathlib.Omega.{arith}
use borrow.Author.Rules.{rules}
use Rattle.index.proofs.Steps.{headed_low, headed_room, headed_more}
use Rattle.index.proofs.building.Building.start.Goals as goal

pub overflow_cast-none : goal.overflow_cast-none
overflow_cast-none g c = let p = g.met.C.Chain.placed.at _ _ c.args.self.now.held.laid in record { fits = omega (arith, p.few) }

pub head_at-requires : goal.head_at-requires
head_at-requires g c = headed_low g.met.C.Chain.placed c.loop-key.invariant (omega arith)

pub put-requires : goal.put-requires
put-requires g c = headed_room g.met.C.Chain.placed c.loop-key.invariant (omega arith) c.head_at.ensures

pub loop-key-preserved : goal.loop-key-preserved
loop-key-preserved g c = headed_more g.met.C.Chain.placed c.loop-key.invariant (omega arith) c.head_at.ensures c.rows-none.ensures c.put.ensures (search rules)

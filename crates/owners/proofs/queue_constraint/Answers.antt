-- `owners::queue_constraint` queues an owner's constraint.
use Rattle.owners.proofs.Records.{queue_elsewhere, queue_here}
use Rattle.owners.proofs.queue_constraint.Goals as goal

pub returns-then-eq : goal.returns-then-eq
returns-then-eq c = queue_here _ _ _ _ _ _ c.constraint_at-it.ensures _ _ c.eq.ensures c.if-eq.true c.args.catalogue.now.indexed c.requires.i_lt_constraints c.queue.ensures

pub returns-else-eq : goal.returns-else-eq
returns-else-eq c = queue_elsewhere _ _ _ _ _ _ c.constraint_at-it.ensures _ _ c.eq.ensures c.if-eq.false

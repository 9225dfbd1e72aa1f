-- `owners::queue_requirement` queues an owner's requirement.
use Rattle.owners.proofs.Records.{queue_other, queue_direct, queue_conditional}
use Rattle.owners.proofs.queue_requirement.Goals as goal

pub returns-in-None : goal.returns-in-None
returns-in-None c = queue_direct _ _ _ _ _ _ c.requirement_at-it.ensures _ _ c.eq.ensures c.if-eq.true c.args.catalogue.now.indexed c.requires.q_lt_requirements c.in-None.is c.queue.ensures

pub returns-in-Some : goal.returns-in-Some
returns-in-Some c = queue_conditional _ _ _ _ _ _ c.requirement_at-it.ensures _ _ c.eq.ensures c.if-eq.true c.args.catalogue.now.indexed c.requires.q_lt_requirements c.in-Some.is c.queue-in-Some.ensures

pub returns-else-eq : goal.returns-else-eq
returns-else-eq c = queue_other _ _ _ _ _ _ c.requirement_at-it.ensures _ _ c.eq.ensures c.if-eq.false

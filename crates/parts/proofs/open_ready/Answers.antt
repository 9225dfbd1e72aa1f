-- `parts::open_ready` opens a part that is ready.
use Rattle.encoder.proofs.Does.{at_catalogue}
use Rattle.parts.proofs.Names.{ready_opened, ready_not}
use Rattle.parts.proofs.open_ready.Goals as goal

pub returns-then-has : goal.returns-then-has
returns-then-has c = ready_opened _ _ _ _ _ c.has.ensures c.if-has.true c.requires.p_bound (at_catalogue c.open_owner.ensures)

pub returns-else-has : goal.returns-else-has
returns-else-has c = ready_not _ _ _ _ _ c.has.ensures c.if-has.false

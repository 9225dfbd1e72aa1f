-- `opening::queue` puts one task more behind the others, or says that there is no place.
use mathlib.Core.Path.{refl}
use Rattle.encoder.proofs.Does.{plain_full}
use Rattle.encoder.proofs.Widening.{queue_widens}
use Rattle.opening.proofs.Line.{queue_more, queue_over}
use Rattle.opening.proofs.queue.Goals as goal

pub returns-then-state-ne0 : goal.returns-then-state-ne0
returns-then-state-ne0 c = plain_full c.if-state-ne0.true (λ k v. queue_widens _)

pub returns-then-state : goal.returns-then-state
returns-then-state c = record { limits = refl; area = refl; did = λ k. queue_more c.push-state.ensures c.if-state.true }

pub returns-else-state : goal.returns-else-state
returns-else-state c = record { limits = refl; area = refl; did = λ k. queue_over _ _ c.args.state.now.fits c.if-state.false c.filled-state.ensures }

-- `opening::add_waiting` puts one entry behind those that wait, or says that the limit is reached.
use mathlib.Core.Path.{refl}
use Rattle.encoder.proofs.Did.{told_full}
use Rattle.opening.proofs.Waiting.{waiting_full, waiting_more, waiting_over}
use Rattle.opening.proofs.add_waiting.Goals as goal

pub returns-then-state-ne0 : goal.returns-then-state-ne0
returns-then-state-ne0 c = record { limits = refl; area = refl; bytes = refl; did = waiting_full _ _ _ (told_full c.if-state-ne0.true) }

pub returns-then-state : goal.returns-then-state
returns-then-state c = record { limits = refl; area = refl; bytes = refl; did = waiting_more _ _ c.requires.drawn_value c.if-state.true c.push_waiting-state.ensures }

pub returns-else-state : goal.returns-else-state
returns-else-state c = record { limits = refl; area = refl; bytes = refl; did = waiting_over _ _ _ c.requires.drawn_value c.if-state.false c.filled-state.ensures }

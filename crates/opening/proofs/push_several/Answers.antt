-- `opening::push_several` lists one name more, or says that there is no place.
use mathlib.Core.Path.{refl}
use Rattle.encoder.proofs.Does.{plain_full}
use Rattle.encoder.proofs.Widening.{with_several_widens}
use Rattle.opening.proofs.Several.{several_more, several_over}
use Rattle.opening.proofs.push_several.Goals as goal

pub returns-then-state-ne0 : goal.returns-then-state-ne0
returns-then-state-ne0 c = plain_full c.if-state-ne0.true (λ k v. with_several_widens _)

pub returns-then-state-lt64 : goal.returns-then-state-lt64
returns-then-state-lt64 c = record { limits = refl; area = refl; did = λ k. several_more _ _ _ _ _ _ c.args.state.now.fits c.if-state-lt64.true c.set.ensures }

pub returns-else-state-lt64 : goal.returns-else-state-lt64
returns-else-state-lt64 c = record { limits = refl; area = refl; did = λ k. several_over _ _ _ _ _ c.args.state.now.fits c.if-state-lt64.false c.filled-state.ensures }

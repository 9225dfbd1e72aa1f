-- `condition_literals::push_literal` puts one literal behind those at hand.
use mathlib.Core.Path.{refl}
use Rattle.condition_literals.proofs.Pushing.{push_one}
use Rattle.condition_literals.proofs.push_literal.Goals as goal

pub returns : goal.returns
returns c = record {
  written = record { limits = refl; area = refl; used = refl };
  pushes = push_one _ _ _ _ _ c.args.state.now.fits c.set.ensures;
}

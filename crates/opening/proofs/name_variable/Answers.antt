-- `opening::name_variable` gives an origin a variable that has none, or says that the limit is reached.
use mathlib.Core.Path.{refl}
use Rattle.variable_map.proofs.Laws.{named_made}
use Rattle.encoder.proofs.Does.{plain_full}
use Rattle.encoder.proofs.Widening.{add_variable_widens}
use Rattle.opening.proofs.Variables.{variable_named, variable_lacking}
use Rattle.opening.proofs.name_variable.Goals as goal

pub returns-then-state-ne0 : goal.returns-then-state-ne0
returns-then-state-ne0 c = plain_full c.if-state-ne0.true (λ k v. add_variable_widens _)

pub returns-in-Some : goal.returns-in-Some
returns-in-Some c = record { limits = refl; area = refl; did = λ k. variable_named _ _ _ (named_made c.name.ensures c.in-Some.is) }

pub returns-in-None : goal.returns-in-None
returns-in-None c = record { limits = refl; area = refl; did = λ k. variable_lacking _ _ _ (c.name.ensures.lacking c.in-None.is) c.filled-state.ensures }

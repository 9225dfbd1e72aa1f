-- `commands::decide` is `decide_to` of the state's area, limits and numbers of variables and decisions.
use mathlib.Core.Path.{refl}
use Rattle.std.proofs.lemmas.Result.{err_from_is_err_and}
use Rattle.commands.proofs.Outcomes.{state_same}
use Rattle.commands.proofs.Deciding.{decided_carried, decided_refused}
use Rattle.commands.proofs.decide.Goals as goal

pub returns : goal.returns
returns c = decided_carried c.in_ok-state.ensures refl refl refl

pub returns-in_err-state : goal.returns-in_err-state
returns-in_err-state c =
    let p = err_from_is_err_and c.from_residual.result c.from_residual.ensures.1 in
    rw (p.1, p.2) (decided_refused c.in_err-state.ensures (state_same _ _ (c.in_err-state.ensures.same _ refl)))

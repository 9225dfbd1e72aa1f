-- What a step does to the waiting entries alone.
use Rattle.std.specs.Prelude.{◌≡◌, List, ℕ}
use Rattle.rules.specs.State as rules
use Rattle.encoder.specs.declared.State.{State}
use Rattle.encoder.specs.Held.{Reading}
use Rattle.encoder.specs.Did.{WaitingDid}

-- F was done, in the same areas and within the same limits; the state's area and the clauses, whatever they hold, stay
pub record WaitingDoes (F : Reading → rules.State → rules.State) (x : State) (wt : List ℕ) (x' : State) (wt' : List ℕ) : Type 0 where
  pub limits : x'.limits ≡ x.limits
  pub area : x'.area.ghost_name ≡ x.area.ghost_name
  pub bytes : x'.area.now ≡ x.area.now
  pub did : WaitingDid x.limits F x.used wt x'.used wt'

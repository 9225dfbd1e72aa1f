-- A run, from the state between two records to the state after it.
use Rattle.std.specs.Prelude.{◌≡◌, true, false, List, ℕ}
use Rattle.rules.specs.Catalogue.{Catalogue}
use Rattle.rules.specs.State.{State}
use Rattle.rules.specs.Run.{run_once}
use Rattle.rules.specs.Limits.{above}
use Rattle.rules.proofs.Reached.{Given, Reached}
use Rattle.state.specs.declared.Limits.{Limits}
use Rattle.state.specs.Layout.{held}
use Rattle.encoder.specs.declared.Counters.{Counters}
use Rattle.encoder.specs.declared.State as encoder
use Rattle.encoder.specs.Did.{is_full}
use Rattle.encoder.specs.Does.{regions_of}
use Rattle.state.specs.Limits.{limits_of}
pub use Rattle.beginning.specs.Beginning.{Holds, Reaches, IsHolding, IsReached}

-- the run was carried out, or would end above a limit
pub record RunDid (c : Catalogue) (l : Limits) (level : ℕ) (n : Counters) (st : ℕ → List ℕ) (cl wt : List ℕ)
    (n' : Counters) (st' : ℕ → List ℕ) (cl' wt' : List ℕ) : Type 0 where
  pub done : (s : State) → Given c → Reached (limits_of l) c s → Holds c l s n st cl wt → is_full n' ≡ false → Holds c l (run_once c level s) n' st' cl' wt'
  pub over : (s : State) → Given c → Reached (limits_of l) c s → Holds c l s n st cl wt → is_full n' ≡ true → above (limits_of l) (run_once c level s) ≡ true

-- the same of the encoder's state: in the same area and within the same limits
pub record RunsOnce (c : Catalogue) (level : ℕ) (x : encoder.State) (cl wt : List ℕ) (x' : encoder.State) (cl' wt' : List ℕ) : Type 0 where
  pub limits : x'.limits ≡ x.limits
  pub area : x'.area.ghost_name ≡ x.area.ghost_name
  pub did : RunDid c x.limits level x.used (regions_of x) cl wt x'.used (held x.limits x'.area.now) cl' wt'

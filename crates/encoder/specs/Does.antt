-- What a step does to the encoder: to its state alone, to it and the clauses, or to all its areas.
use Rattle.std.specs.Prelude.{◌≡◌, List, ℕ}
use Rattle.rules.specs.Catalogue.{Catalogue}
use Rattle.rules.specs.Variables.{Origin}
use Rattle.rules.specs.Decisions.{Decision}
use Rattle.rules.specs.State as rules
use Rattle.state.specs.Layout.{held}
use Rattle.variable_map.specs.Mapping as mapping
use Rattle.variable_map.specs.Mapping.{Mapped}
use Rattle.decision_tracker.specs.Tracking as tracking
use Rattle.decision_tracker.specs.Tracking.{Kept}
use Rattle.encoder.specs.declared.State.{State}
use Rattle.encoder.specs.Held.{Reading, GoodState, Good, GoodAlone}
use Rattle.encoder.specs.Did.{StateDid, ClausesDid, Did}

-- the regions of its area
abbrev pub regions_of : State → ℕ → List ℕ
regions_of x = held x.limits x.area.now

abbrev pub variables_of : State → List Origin
variables_of x = mapping.variables x.used.variables (regions_of x)

abbrev pub decisions_of : State → List Decision
decisions_of x = tracking.decisions x.used.decisions (regions_of x)

-- each origin has one variable, and each variable one value at most
abbrev pub IsMapped : State → Type 0
IsMapped x = Mapped x.limits x.used.variables (regions_of x)

abbrev pub IsTracked : State → Type 0
IsTracked x = Kept x.limits x.used.decisions (regions_of x)

-- ---- what holds between two steps: of the state, of it with some clauses, with these clauses, with these waiting entries as well

abbrev pub IsGoodState : Catalogue → State → Type 0
IsGoodState c x = GoodState c x.limits x.used (regions_of x)

abbrev pub IsGood : Catalogue → State → Type 0
IsGood c x = GoodAlone c x.limits x.used (regions_of x)

abbrev pub IsGoodWith : Catalogue → State → (cl wt : List ℕ) → Type 0
IsGoodWith c x cl wt = Good c x.limits x.used (regions_of x) cl wt

-- ---- F was done, in the same area and within the same limits

-- in the state alone
pub record StateDoes (c : Catalogue) (F : Reading → rules.State → rules.State) (x x' : State) : Type 0 where
  pub limits : x'.limits ≡ x.limits
  pub area : x'.area.ghost_name ≡ x.area.ghost_name
  pub did : StateDid c x.limits F x.used (regions_of x) x'.used (held x.limits x'.area.now)

-- the same of a step that does not read the catalogue
pub record PlainDoes (F : Catalogue → Reading → rules.State → rules.State) (x x' : State) : Type 0 where
  pub limits : x'.limits ≡ x.limits
  pub area : x'.area.ghost_name ≡ x.area.ghost_name
  pub did : (c : Catalogue) → StateDid c x.limits (F c) x.used (regions_of x) x'.used (held x.limits x'.area.now)

-- in the state and the clauses
pub record ClausesDoes (c : Catalogue) (F : Reading → rules.State → rules.State) (x : State) (cl : List ℕ) (x' : State) (cl' : List ℕ) : Type 0 where
  pub limits : x'.limits ≡ x.limits
  pub area : x'.area.ghost_name ≡ x.area.ghost_name
  pub did : ClausesDid c x.limits F x.used (regions_of x) cl x'.used (held x.limits x'.area.now) cl'

-- in these and the waiting entries
pub record Does (c : Catalogue) (F : Reading → rules.State → rules.State) (x : State) (cl wt : List ℕ) (x' : State) (cl' wt' : List ℕ) : Type 0 where
  pub limits : x'.limits ≡ x.limits
  pub area : x'.area.ghost_name ≡ x.area.ghost_name
  pub did : Did c x.limits F x.used (regions_of x) cl wt x'.used (held x.limits x'.area.now) cl' wt'

-- A state whose area is only read.
use Rattle.std.specs.Prelude.{◌≡◌, List, ℕ}
use Rattle.rules.specs.Variables.{Origin}
use Rattle.rules.specs.Decisions.{Decision}
use Rattle.state.specs.Layout.{held}
use Rattle.variable_map.specs.Mapping as mapping
use Rattle.variable_map.specs.Mapping.{Mapped}
use Rattle.decision_tracker.specs.Tracking as tracking
use Rattle.encoder.specs.declared.State.{State}
use Rattle.encoder.specs.declared.state_ref.StateRef.{StateRef}

-- the regions of its area
abbrev pub regions_at : StateRef → ℕ → List ℕ
regions_at x = held x.limits x.area.now

abbrev pub variables_at : StateRef → List Origin
variables_at x = mapping.variables x.used.variables (regions_at x)

abbrev pub decisions_at : StateRef → List Decision
decisions_at x = tracking.decisions x.used.decisions (regions_at x)

-- each origin has one variable
abbrev pub IsMappedAt : StateRef → Type 0
IsMappedAt x = Mapped x.limits x.used.variables (regions_at x)

-- r is of state x
pub record RefOf (x : State) (r : StateRef) : Type 0 where
  pub area : r.area.now ≡ x.area.now
  pub limits : r.limits ≡ x.limits
  pub used : r.used ≡ x.used

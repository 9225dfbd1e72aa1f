-- The variables of a state and what is decided of them.
use Rattle.std.specs.Prelude.{◌≡◌, List, ℕ}
use Rattle.rules.specs.Variables.{Origin}
use Rattle.rules.specs.Decisions.{Decision}
use Rattle.state.specs.Layout.{held}
use Rattle.variable_map.specs.Mapping as mapping
use Rattle.variable_map.specs.Mapping.{Mapped}
use Rattle.decision_tracker.specs.Tracking as tracking
use Rattle.decision_tracker.specs.Tracking.{Kept}
use Rattle.encoder.specs.declared.State.{State}
use Rattle.encoder.specs.declared.Assignment.{Assignment}

-- the regions of its area
abbrev pub regions_in : Assignment → ℕ → List ℕ
regions_in a = held a.limits a.area.now

abbrev pub variables_in : Assignment → List Origin
variables_in a = mapping.variables a.variables (regions_in a)

abbrev pub decisions_in : Assignment → List Decision
decisions_in a = tracking.decisions a.decisions (regions_in a)

-- each origin has one variable
abbrev pub Maps : Assignment → Type 0
Maps a = Mapped a.limits a.variables (regions_in a)

-- each variable has one value at most
abbrev pub Tracks : Assignment → Type 0
Tracks a = Kept a.limits a.decisions (regions_in a)

-- a is that of state x
pub record AssignmentOf (x : State) (a : Assignment) : Type 0 where
  pub area : a.area.now ≡ x.area.now
  pub limits : a.limits ≡ x.limits
  pub variables : a.variables ≡ x.used.variables
  pub decisions : a.decisions ≡ x.used.decisions

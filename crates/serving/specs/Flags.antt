-- The flags of a run's goals.
use Rattle.std.specs.Prelude.{◌≡◌, true, false, Bool, cond, List, ℕ, ◌-◌, ltb, get_or}
use Rattle.rules.specs.Lists.{distinct}
use Rattle.rules.specs.Catalogue.{Goal, range, union, Catalogue}
use Rattle.rules.specs.Candidates.{goal_ranges}
use Rattle.state.specs.declared.Limits.{Limits}
use Rattle.encoder.specs.declared.Counters.{Counters}
use Rattle.encoder.specs.declared.State.{State}
use Rattle.encoder.specs.Does.{regions_of}
use Rattle.naming.specs.Settled.{Settles}

-- the goal of place i: ranges first, then unions
unfoldable pub goal_from : ℕ → Goal
goal_from i = cond (ltb i 512) (range i) (union (i - 512))

-- the candidates of a goal whose flag is set are settled, unless it is full
pub record Flagged (c : Catalogue) (l : Limits) (flags : List Bool) (n : Counters) (st : ℕ → List ℕ) : Type 0 where
  pub settles : (i : ℕ) → get_or flags i false ≡ true → Settles c l (distinct (goal_ranges c (goal_from i))) n st

-- the same of the encoder's state
abbrev pub AreFlagged : Catalogue → List Bool → State → Type 0
AreFlagged c flags x = Flagged c x.limits flags x.used (regions_of x)

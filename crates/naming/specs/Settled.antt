-- Candidates that need no more naming.
use Rattle.std.specs.Prelude.{◌≡◌, true, false, ◌||◌, List, ℕ}
use Rattle.rules.specs.Lists.{any, elem}
use Rattle.rules.specs.Catalogue.{part, Catalogue, part_at, name_of, same_owner}
use Rattle.rules.specs.Candidates.{sorted}
use Rattle.rules.specs.Variables.{known, part_origin}
use Rattle.rules.specs.Opening.{Opening}
use Rattle.rules.specs.State.{State}
use Rattle.rules.specs.Called.{◌∈◌}
use Rattle.state.specs.declared.Limits.{Limits}
use Rattle.encoder.specs.declared.Counters.{Counters}
use Rattle.encoder.specs.declared.State as encoder
use Rattle.encoder.specs.Held.{Reading, state_of}
use Rattle.encoder.specs.Did.{is_full}
use Rattle.encoder.specs.Does.{regions_of}

-- part p is tracked, or is not to be named for tracking any more
abbrev pub Noted : Catalogue → ℕ → Opening → Type 0
Noted c p o = (elem p o.tracked || (elem (name_of c p) o.several || elem p o.named)) ≡ true

-- part p has a variable, needs naming for its name's sake at most, and is opened if ready
pub record Settled (c : Catalogue) (s : State) (p : ℕ) : Type 0 where
  pub known : known s.variables (part_origin p) ≡ true
  pub noted : Noted c p s.opening
  pub opened : (part_at c p).ready ≡ true → any (same_owner (part p)) s.opening.owners ≡ true

-- so are the candidates of these ranges
pub record AllSettled (c : Catalogue) (rs : List ℕ) (s : State) : Type 0 where
  pub each : (r p : ℕ) → r ∈ rs → p ∈ sorted c r → Settled c s p

-- and so they are in what the areas hold, unless it is full
pub record Settles (c : Catalogue) (l : Limits) (rs : List ℕ) (n : Counters) (st : ℕ → List ℕ) : Type 0 where
  pub held : is_full n ≡ false → (v : Reading) (cl wt : List ℕ) → AllSettled c rs (state_of c l v n st cl wt)

-- the same of the encoder's state
abbrev pub AreSettled : Catalogue → List ℕ → encoder.State → Type 0
AreSettled c rs x = Settles c x.limits rs x.used (regions_of x)

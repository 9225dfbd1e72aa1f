-- What a function does not touch: regions by number, each a list of numbers.
use Rattle.std.specs.Prelude.{◌≡◌, false, List, ℕ, ◌<◌, ◌≤◌, get_or}
use Rattle.rules.specs.Lists.{elem}

-- only the regions js may have changed
pub record Changed (js : List ℕ) (st st' : ℕ → List ℕ) : Type 0 where
  pub same : (j : ℕ) → elem j js ≡ false → st' j ≡ st j

-- every number of region j is 0
pub record Blank (j : ℕ) (st : ℕ → List ℕ) : Type 0 where
  pub zeros : (i : ℕ) → get_or (st j) i 0 ≡ 0

-- the regions from number `from` up to `to` are blank, and so is each that was
pub record Zeroed (from to : ℕ) (st st' : ℕ → List ℕ) : Type 0 where
  pub blank : (j : ℕ) → from ≤ j → j < to → Blank j st'
  pub still : (j : ℕ) → Blank j st → Blank j st'

-- every region that is read before it is written is blank: at the start of a sheet
pub record Cleared (st : ℕ → List ℕ) : Type 0 where
  pub first : (j : ℕ) → j < 13 → Blank j st
  pub ranges : Blank 15 st
  pub values : Blank 17 st

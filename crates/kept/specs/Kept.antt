-- What holds of areas that hold a catalogue.
use Rattle.std.specs.Prelude.{◌≡◌, List, [], ℕ, ◌≤◌, length}
use Rattle.tables.specs.declared.Counts.{Counts}
use Rattle.tables.specs.Tables.{tables}
use Rattle.conditions.specs.Sizes.{Sized}
use Rattle.unions.specs.Unions.{Row, rows, ranges_of}
use Rattle.cache.specs.Areas.{Held}

-- a union that is not given yet has no rows
pub record Given (unions : ℕ) (rs : List Row) : Type 0 where
  pub none_yet : (u : ℕ) → unions ≤ u → ranges_of u rs ≡ []

-- the areas hold a catalogue, and one thing more can be put
pub record Kept (k : Counts) (m u t : List ℕ) : Type 0 where
  pub held : Held k (length m) (length u) (length t)
  pub given : Given k.unions (rows k.members u)
  pub sized : Sized (tables k t)

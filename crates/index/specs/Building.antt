-- What a step of the building leaves as it was.
use Rattle.std.specs.Prelude.{◌≡◌, List}
use Rattle.unions.specs.Unions.{Row, rows}
use Rattle.index.specs.declared.building.Building.{Building}

-- the areas are the same ones, of the same catalogue
pub record SameAreas (a b : Building) : Type 0 where
  pub counts : b.counts ≡ a.counts
  pub marks : b.marks ≡ a.marks
  pub unions : b.unions.ghost_name ≡ a.unions.ghost_name
  pub area : b.area.ghost_name ≡ a.area.ghost_name

-- and nothing was written to the members of unions
pub record TablesOnly (a b : Building) : Type 0 where
  pub counts : b.counts ≡ a.counts
  pub marks : b.marks ≡ a.marks
  pub unions : b.unions ≡ a.unions
  pub area : b.area.ghost_name ≡ a.area.ghost_name

-- or nothing to the tables
pub record UnionsOnly (a b : Building) : Type 0 where
  pub counts : b.counts ≡ a.counts
  pub marks : b.marks ≡ a.marks
  pub unions : b.unions.ghost_name ≡ a.unions.ghost_name
  pub area : b.area ≡ a.area

abbrev pub rows_of : Building → List Row
rows_of b = rows b.counts.members b.unions.now

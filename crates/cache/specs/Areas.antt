-- The catalogue that the lent areas hold.
use Rattle.std.specs.Prelude.{Bool, List, ℕ, ◌≤◌, length, get_or}
use Rattle.rules.specs.Catalogue.{Catalogue}
use Rattle.tables.specs.declared.Counts.{Counts}
use Rattle.tables.specs.Tables.{Tables, listed, tables, Laid}
use Rattle.marks.specs.Marks.{is_marked}
use Rattle.unions.specs.Unions.{Row, rows, ranges_of}

-- the tables, with the members of ranges and of unions
unfoldable pub assembled : Tables → (ℕ → ℕ → Bool) → List Row → Catalogue
assembled t member us =
    record {
      names = t.names;
      parts = t.parts;
      ranges = listed (length t.ranges) (λ r. record { name = get_or t.ranges r 0; members = member r });
      unions = listed t.unions (λ u. ranges_of u us);
      conditions = t.conditions;
      requirements = t.requirements;
      constraints = t.constraints;
    }

-- the three areas as lists of bytes: marks, members of unions, the other tables
unfoldable pub catalogue : Counts → (marks unions bytes : List ℕ) → Catalogue
catalogue k m u t = assembled (tables k t) (is_marked m) (rows k.members u)

-- no count is above its ceiling, and areas of these lengths are long enough
pub record Held (k : Counts) (marks unions bytes : ℕ) : Type 0 where
  pub laid : Laid k bytes
  pub marks_fit : 65536 ≤ marks
  pub unions_fit : 52428 ≤ unions

-- The regions of a run's state area, in order; docs/LIMITS.md, "Work areas".
use Rattle.std.specs.Prelude.{List, [], ◌∷◌, ℕ, ◌+◌, ◌*◌, ◌≤◌}
use Rattle.regions.specs.Regions.{Layout, regions}
use Rattle.state.specs.declared.Limits.{Limits}
use Rattle.state.specs.declared.Region.{Region}
use Rattle.state.specs.declared.Region.TheVariants.{Slots, Owners, OwnerMarks, Names, NameMarks, Several, Added, AddedMarks, Named, NamedMarks, Tracked, TrackedMarks, TrackedCounts, Fired, Candidates, RangeMarks, Variables, Values, Decisions, Literals, Line}

unfoldable pub sizes : Limits → Layout
sizes l =
    2881 ∷ 1025 ∷ 1025 ∷ 64 ∷ 64 ∷ 64 ∷ 1025 ∷ 1025 ∷ 1024 ∷ 1024 ∷ 1024 ∷ 1024 ∷ 64 ∷ 4096 ∷ 1024 ∷ 512
    ∷ 3 * l.variables ∷ l.variables ∷ 4 * l.variables ∷ l.literals ∷ (3649 + l.waiting) ∷ []

-- which of the regions, from 0
abbrev pub region_number : Region → ℕ
region_number Slots = 0
region_number Owners = 1
region_number OwnerMarks = 2
region_number Names = 3
region_number NameMarks = 4
region_number Several = 5
region_number Added = 6
region_number AddedMarks = 7
region_number Named = 8
region_number NamedMarks = 9
region_number Tracked = 10
region_number TrackedMarks = 11
region_number TrackedCounts = 12
region_number Fired = 13
region_number Candidates = 14
region_number RangeMarks = 15
region_number Variables = 16
region_number Values = 17
region_number Decisions = 18
region_number Literals = 19
region_number Line = 20

-- the area's regions, by number
unfoldable pub held : Limits → List ℕ → ℕ → List ℕ
held l bytes = regions (sizes l) bytes

-- limits within their ceilings, and an area of this many bytes is long enough
pub record Fits (l : Limits) (bytes : ℕ) : Type 0 where
  pub variables : l.variables ≤ 4096
  pub clauses : l.clauses ≤ 16384
  pub literals : l.literals ≤ 8192
  pub waiting : l.waiting ≤ 2048
  pub long : 2 * (20614 + 8 * l.variables + l.literals + l.waiting) ≤ bytes

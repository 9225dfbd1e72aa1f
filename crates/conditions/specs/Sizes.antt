-- Sizes of conditions.
use Rattle.std.specs.Prelude.{◌≡◌, List, [], ◌∷◌, ℕ, ◌<◌, ◌≤◌, max, length, get_or}
use Rattle.rules.specs.Catalogue.{Condition, leaf, joined, no_condition}
use Rattle.rules.specs.Conditions.{Disjunct, disjuncts}
use Rattle.tables.specs.declared.Size as S
use Rattle.tables.specs.Tables.{Size, Tables, listed}

-- ---- sizes

-- how many ranges the longest disjunct has
unfoldable pub longest : List Disjunct → ℕ
longest [] = 0
longest (d ∷ ds) = max (length d) (longest ds)

unfoldable pub size_of : List Disjunct → Size
size_of ds = record { count = length ds; longest = longest ds }

unfoldable pub sizes_of : List Condition → List Size
sizes_of cs = listed (length cs) (λ c. size_of (disjuncts cs c))

-- what refusal 6 leaves of conditions; none is without a disjunct
pub record Allowed (ds : List Disjunct) : Type 0 where
  pub some : 1 ≤ length ds
  pub most : length ds ≤ 64
  pub narrow : longest ds ≤ 16

-- the halves of condition c have smaller numbers
abbrev pub Earlier : ℕ → Condition → Type 0
Earlier c (leaf r) = Unit {0}
Earlier c (joined o left right) = (left < c) × (right < c)

-- the sizes in the tables are those of their conditions, of which none is too large or names a later one
pub record Sized (t : Tables) : Type 0 where
  pub sizes : t.sizes ≡ sizes_of t.conditions
  pub allowed : (c : ℕ) → c < length t.conditions → Allowed (disjuncts t.conditions c)
  pub earlier : (c : ℕ) → c < length t.conditions → Earlier c (get_or t.conditions c no_condition)

-- z is the size of condition c
pub record HasSize (cs : List Condition) (c : ℕ) (z : S.Size) : Type 0 where
  pub allowed : Allowed (disjuncts cs c)
  pub counted : z.count ≡ length (disjuncts cs c)
  pub measured : z.longest ≡ longest (disjuncts cs c)

-- condition c has n disjuncts
pub record Counted (cs : List Condition) (c n : ℕ) : Type 0 where
  pub is : n ≡ length (disjuncts cs c)
  pub some : 1 ≤ n
  pub most : n ≤ 64

-- The disjunct that the code carries, and where one comes from.
use Rattle.std.specs.Prelude.{◌≡◌, List, [], ◌∷◌, ◌++◌, ℕ, ◌+◌, ◌<◌, ◌≤◌, length, get_or, take}
use Rattle.rules.specs.Catalogue.{Condition}
use Rattle.rules.specs.Conditions.{Disjunct, disjuncts}
use Rattle.tables.specs.Views.{tables_of}
use Rattle.conditions.specs.declared.Conditions.{Conditions}
use Rattle.conditions.specs.declared.Disjunct as D
use Rattle.conditions.specs.declared.Source.{Source}
use Rattle.conditions.specs.declared.Source.TheVariants.{Range, Half, Halves}

-- those of the tables
abbrev pub conditions_of : Conditions → List Condition
conditions_of c = (tables_of c.tables).conditions

-- ---- the disjunct that the code carries

unfoldable pub ranges_of : D.Disjunct → List ℕ
ranges_of d = take d.len d.ranges

pub record Carries (d : D.Disjunct) (xs : Disjunct) : Type 0 where
  pub len : d.len ≡ length xs
  pub room : d.len ≤ 16
  pub is : ranges_of d ≡ xs

-- r is d with ranges more behind it
pub record Appended (d : D.Disjunct) (more : List ℕ) (r : D.Disjunct) : Type 0 where
  pub len : r.len ≡ d.len + length more
  pub is : ranges_of r ≡ ranges_of d ++ more

-- ---- where disjunct i of condition c comes from

unfoldable pub worked : List Condition → Source → Disjunct
worked cs (Range r) = r ∷ []
worked cs (Half c i) = get_or (disjuncts cs c) i []
worked cs (Halves l i r j) = get_or (disjuncts cs l) i [] ++ get_or (disjuncts cs r) j []

-- a disjunct of an earlier condition than c
pub record Before (cs : List Condition) (c half i : ℕ) : Type 0 where
  pub earlier : half < c
  pub there : i < length (disjuncts cs half)

abbrev pub AllBefore : List Condition → ℕ → Source → Type 0
AllBefore cs c (Range r) = Unit {0}
AllBefore cs c (Half h i) = Before cs c h i
AllBefore cs c (Halves l i r j) = Before cs c l i × Before cs c r j

pub record From (cs : List Condition) (c i : ℕ) (s : Source) : Type 0 where
  pub is : get_or (disjuncts cs c) i [] ≡ worked cs s
  pub before : AllBefore cs c s

-- The lists of a range as choices among the parts of its name, and how long they are.
use Rattle.std.specs.Prelude.{◌≡◌, Bool, not, ◌&&◌, List, ℕ, ◌≤◌, min, eqb, length}
use Rattle.rules.specs.Lists.{filter, up_to}
use Rattle.rules.specs.Catalogue.{Catalogue, part_at, name_of, range_name}
use Rattle.rules.specs.Candidates.{member}
use Rattle.cache.specs.declared.Choice.{Choice}
use Rattle.cache.specs.declared.Choice.TheVariants.{Matching, NonMatching, Favoured, Others}

-- ---- choices

-- of a part of the range's name: is it asked for?
unfoldable pub asked : Choice → (member favoured : Bool) → Bool
asked Matching m f = m
asked NonMatching m f = not m
asked Favoured m f = m && f
asked Others m f = m && not f

unfoldable pub chosen : Catalogue → ℕ → Choice → ℕ → Bool
chosen c r w p = eqb (name_of c p) (range_name c r) && asked w (member c r p) (part_at c p).favoured

unfoldable pub choice : Catalogue → ℕ → Choice → List ℕ
choice c r w = filter (chosen c r w) (up_to 0 (length c.parts))

-- ---- counts

-- n is a list's length, and no more than the ceiling of parts
pub record Counted (n : ℕ) (xs : List ℕ) : Type 0 where
  pub is : n ≡ length xs
  pub most : n ≤ 1024

-- n is a list's length, or `most` if it is longer
pub record CountedTo (most n : ℕ) (xs : List ℕ) : Type 0 where
  pub is : n ≡ min (length xs) most

-- Rows of union members, and the ranges of one union: in order of arrival, repeats kept.
use Rattle.std.specs.Prelude.{◌≡◌, List, map, ℕ, ◌*◌, ◌/◌, ◌%◌, ◌<◌, ◌≤◌, eqb, get_or, take, drop}
use Rattle.rules.specs.Lists.{filter, snoc, up_to}
use Rattle.words.specs.Words.{words}
use Rattle.unions.specs.declared.Member.{Member}

pub record Row : Type 0 where
  pub union : ℕ
  pub range : ℕ

abbrev pub no_row : Row
no_row = record { union = 0; range = 0 }

-- both numbers in one: a catalogue has at most 128 unions and 512 ranges
unfoldable pub row_from : ℕ → Row
row_from x = record { union = x / 512; range = x % 512 }

unfoldable pub row_in : List ℕ → ℕ → Row
row_in w i = row_from (get_or w (2 * i) 0)

unfoldable pub rows : ℕ → List ℕ → List Row
rows n bytes = map (row_in (words bytes)) (up_to 0 n)

unfoldable pub row_of : Member → Row
row_of m = record { union = m.union; range = m.range }

unfoldable pub pushed : List Row → Row → List Row
pushed rs r = snoc rs r

-- the ranges of a union
unfoldable pub ranges_of : ℕ → List Row → List ℕ
ranges_of u rs = map (λ (r : Row). r.range) (filter (λ (r : Row). eqb r.union u) rs)

-- those that are left from place i on
unfoldable pub left : ℕ → ℕ → List Row → List ℕ
left u i rs = ranges_of u (drop i rs)

-- those of the first i rows
unfoldable pub before : ℕ → ℕ → List Row → List ℕ
before u i rs = ranges_of u (take i rs)

-- no row of union u from place `from` on and before i
pub record NoneOf (rs : List Row) (u from i : ℕ) : Type 0 where
  pub onward : from ≤ i
  pub none : (j : ℕ) → from ≤ j → j < i → (get_or rs j no_row).union ≡ u → ⊥

-- and i is a row of it, or the end of n rows
pub record NextOf (n : ℕ) (rs : List Row) (u from i : ℕ) : Type 0 where
  pub before : NoneOf rs u from i
  pub most : i ≤ n
  pub here : i < n → (get_or rs i no_row).union ≡ u

-- 01, "Conditions become disjuncts of ranges, left before right".
use Rattle.std.specs.Prelude.{Bool, true, false, List, [], ◌∷◌, ◌++◌, map, ℕ, zero, suc, eqb, ltb, length, get_or}
use Rattle.std.proofs.Math.Option.{Option, none, some}
use Rattle.rules.specs.Lists.{any, concat_map, up_to}
use Rattle.rules.specs.Catalogue.{Operator, and, or, Condition, leaf, joined, Catalogue, no_condition, condition_at}

-- a disjunct: the ranges that must all hold
abbrev pub Disjunct : Type 0
Disjunct = List ℕ

-- "left part outermost for 'and'"
unfoldable pub combined : Operator → List Disjunct → List Disjunct → List Disjunct
combined or ls rs = ls ++ rs
combined and ls rs = concat_map (λ l. map (λ r. l ++ r) rs) ls

-- "a condition's disjuncts are worked out from its two halves", which `half` gives
unfoldable pub from_halves : Condition → (ℕ → List Disjunct) → List Disjunct
from_halves (leaf r) half = (r ∷ []) ∷ []
from_halves (joined o l r) half = combined o (half l) (half r)

-- the disjuncts of condition k, if k is below n. A half has a smaller number, so the number falls at each call.
unfoldable pub disjuncts_below : List Condition → ℕ → ℕ → List Disjunct
disjuncts_below ks zero k = []
disjuncts_below ks (suc n) k = elim (eqb k n) [ true ↦ from_halves (get_or ks n no_condition) (disjuncts_below ks n) | false ↦ disjuncts_below ks n k ]

unfoldable pub disjuncts : List Condition → ℕ → List Disjunct
disjuncts ks k = disjuncts_below ks (suc k) k

-- refusal 6: "a condition has over 64 disjuncts, or one with over 16 ranges"
unfoldable pub too_wide : List Disjunct → Bool
too_wide ds = any (λ (d : Disjunct). ltb 16 (length d)) ds

unfoldable pub too_many_disjuncts : List Disjunct → Bool
too_many_disjuncts ds = ltb 64 (length ds)

-- ---- of a requirement, by its record's number

unfoldable pub disjuncts_if : List Condition → Option ℕ → List Disjunct
disjuncts_if ks none = []
disjuncts_if ks (some k) = disjuncts ks k

abbrev pub is_none : Option ℕ → Bool
is_none none = true
is_none (some k) = false

abbrev pub is_condition : ℕ → Option ℕ → Bool
is_condition k none = false
is_condition k (some j) = eqb j k

module _ (c : Catalogue) where
  unfoldable pub disjuncts_of : ℕ → List Disjunct
  disjuncts_of q = disjuncts_if c.conditions (condition_at c q)

  unfoldable pub disjunct_at : ℕ → ℕ → Disjunct
  disjunct_at q i = get_or (disjuncts_of q) i []

  unfoldable pub indices : ℕ → List ℕ
  indices q = up_to 0 (length (disjuncts_of q))

  unfoldable pub unconditional : ℕ → Bool
  unconditional q = is_none (condition_at c q)

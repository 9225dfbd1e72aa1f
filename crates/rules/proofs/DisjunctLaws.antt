-- Disjuncts: those of a condition from those of its halves, those of conditions with one more, how many they are, and from which disjuncts of the halves the i-th is made.
use mathlib.Core.Path.{◌≡◌, refl, sym, ap, ◌∙◌}
use mathlib.Core.Bool.{Bool, true, false}
use mathlib.Core.List.{List, [], ◌∷◌, ◌++◌, map}
use Prim.Native.Nat.{ℕ, zero, suc, ◌+◌, ◌-◌, ◌*◌, ◌/◌, ◌%◌, ◌<◌, ◌≤◌}
use native.Mathlib.Nat.{not-suc-le-zero, le_of_suc-le-suc, div-add-mod', div-lt_iff_lt-mul, mod-lt}
use native.Mathlib.Omega.{arith}
use lib.Dec.{eqb}
use lib.ListN.{length, get_or, length-append, length-map, get_or-append}
use lib.Seq.{get_or-append_seam, get_or-append-add}
use borrow.Author.Tests.{eqb-true, eqb-false, eq-eqb}
use Rattle.rules.specs.Lists.{snoc, concat_map}
use Rattle.rules.specs.Catalogue.{Operator, and, or, Condition, leaf, joined, no_condition}
use Rattle.rules.specs.Conditions.{Disjunct, combined, from_halves, disjuncts_below, disjuncts}

-- ---- from the halves

module _ (ks : List Condition) where
  pub disjuncts_here : (k : ℕ) → disjuncts ks k ≡ from_halves (get_or ks k no_condition) (disjuncts_below ks k)
  unfolding disjuncts disjuncts_below
  disjuncts_here k = rw (eq-eqb k k refl, disjuncts_below)

  pub disjuncts_below_law : (n k : ℕ) → k < n → disjuncts_below ks n k ≡ disjuncts ks k
  unfolding disjuncts_below
  disjuncts_below_law zero k h = absurd (not-suc-le-zero h)
  disjuncts_below_law (suc n) k h = go (eqb k n) refl (disjuncts_below_law n k)
    where
      go : (b : Bool) → eqb k n ≡ b → (k < n → disjuncts_below ks n k ≡ disjuncts ks k)
          → elim b [ true ↦ from_halves (get_or ks n no_condition) (disjuncts_below ks n) | false ↦ disjuncts_below ks n k ] ≡ disjuncts ks k
      go true e f = let q : k ≡ n = eqb-true k n e in rw q (sym (disjuncts_here n))
      go false e f = let apart = eqb-false k n e in f (omega arith)

  pub disjuncts_leaf : (k r : ℕ) → get_or ks k no_condition ≡ leaf r → disjuncts ks k ≡ (r ∷ []) ∷ []
  unfolding from_halves
  disjuncts_leaf k r e = disjuncts_here k ∙ rw e

  pub disjuncts_joined : (k : ℕ) (o : Operator) (l r : ℕ) → get_or ks k no_condition ≡ joined o l r → l < k → r < k
      → disjuncts ks k ≡ combined o (disjuncts ks l) (disjuncts ks r)
  unfolding from_halves
  disjuncts_joined k o l r e f g = disjuncts_here k ∙ rw (e, disjuncts_below_law k l f, disjuncts_below_law k r g)

-- ---- one condition more

halves_same : (c : Condition) (f g : ℕ → List Disjunct) → ((k : ℕ) → f k ≡ g k) → from_halves c f ≡ from_halves c g
unfolding from_halves
halves_same (leaf r) f g e = refl
halves_same (joined o l r) f g e = rw (e l, e r)

module _ (ks : List Condition) (x : Condition) where
  below_snoc : (n k : ℕ) → n ≤ length ks → disjuncts_below (snoc ks x) n k ≡ disjuncts_below ks n k
  unfolding disjuncts_below snoc
  below_snoc zero k h = refl
  below_snoc (suc n) k h = go (eqb k n) (λ j. below_snoc n j (omega arith))
    where
      go : (b : Bool) → ((j : ℕ) → disjuncts_below (snoc ks x) n j ≡ disjuncts_below ks n j)
          → ◌≡◌ {A = List Disjunct}
          (elim b [ true ↦ from_halves (get_or (snoc ks x) n no_condition) (disjuncts_below (snoc ks x) n) | false ↦ disjuncts_below (snoc ks x) n k ])
          (elim b [ true ↦ from_halves (get_or ks n no_condition) (disjuncts_below ks n) | false ↦ disjuncts_below ks n k ])
      go true e = rw (get_or-append ks (x ∷ []) no_condition n h) (halves_same (get_or ks n no_condition) _ _ e)
      go false e = e k

  pub disjuncts_old : (k : ℕ) → k < length ks → disjuncts (snoc ks x) k ≡ disjuncts ks k
  unfolding disjuncts
  disjuncts_old k h = below_snoc (suc k) k h

  last_is : get_or (snoc ks x) (length ks) no_condition ≡ x
  unfolding snoc
  last_is = get_or-append_seam ks x [] no_condition

  pub disjuncts_new_leaf : (r : ℕ) → x ≡ leaf r → disjuncts (snoc ks x) (length ks) ≡ (r ∷ []) ∷ []
  disjuncts_new_leaf r e = disjuncts_leaf (snoc ks x) (length ks) r (last_is ∙ e)

  pub disjuncts_new_joined : (o : Operator) (l r : ℕ) → x ≡ joined o l r → l < length ks → r < length ks
      → disjuncts (snoc ks x) (length ks) ≡ combined o (disjuncts ks l) (disjuncts ks r)
  disjuncts_new_joined o l r e f g =
      disjuncts_joined (snoc ks x) (length ks) o l r (last_is ∙ e) f g ∙ rw (disjuncts_old l f, disjuncts_old r g)

-- ---- how many, and which

-- what stands at a number of a list that was mapped, whatever stands past the ends
map_at : {A B : Type 0} (f : A → B) (xs : List A) (i : ℕ) (d : A) (e : B) → i < length xs → get_or (map f xs) i e ≡ f (get_or xs i d)
map_at f [] i d e h = absurd (not-suc-le-zero h)
map_at f (x ∷ xs) zero d e h = refl
map_at f (x ∷ xs) (suc i) d e h = map_at f xs i d e (le_of_suc-le-suc h)

module _ (rs : List Disjunct) where
  -- the disjuncts that begin with l
  abbrev behind : Disjunct → List Disjunct
  behind l = map (λ r. l ++ r) rs

  each_behind : (ls : List Disjunct) → length (concat_map behind ls) ≡ length ls * length rs
  unfolding concat_map
  each_behind [] = omega arith
  each_behind (l ∷ ls) = rw (length-append, length-map rs (λ r. l ++ r), each_behind ls) (omega arith)

  -- disjunct a of the left half with disjunct b of the right one
  pair_at : (ls : List Disjunct) (a b : ℕ) → a < length ls → b < length rs → get_or (concat_map behind ls) (a * length rs + b) [] ≡ get_or ls a [] ++ get_or rs b []
  unfolding concat_map
  pair_at [] a b h g = absurd (not-suc-le-zero h)
  pair_at (l ∷ ls) zero b h g =
      let q : 0 * length rs + b ≡ b = omega arith in
      let n : b < length (behind l) = rw (length-map rs (λ r. l ++ r)) g in
      rw (q, get_or-append (behind l) (concat_map behind ls) [] b n) (map_at (λ r. l ++ r) rs b [] [] g)
  pair_at (l ∷ ls) (suc a) b h g =
      let q : suc a * length rs + b ≡ length (behind l) + (a * length rs + b) = rw (length-map rs (λ r. l ++ r)) (omega arith) in
      rw (q, get_or-append-add (behind l) (concat_map behind ls) (a * length rs + b) []) (pair_at ls a b (le_of_suc-le-suc h) g)

not_none : (n m i : ℕ) → i < n * m → 0 < m
not_none n zero i h = omega arith
not_none n (suc m) i h = omega arith

module _ (ls rs : List Disjunct) where
  pub length_or : length (combined or ls rs) ≡ length ls + length rs
  unfolding combined
  length_or = length-append ls rs

  pub length_and : length (combined and ls rs) ≡ length ls * length rs
  unfolding combined
  length_and = each_behind rs ls

  pub or_left : (i : ℕ) → i < length ls → get_or (combined or ls rs) i [] ≡ get_or ls i []
  unfolding combined
  or_left i h = get_or-append ls rs [] i h

  pub or_right : (i : ℕ) → length ls ≤ i → get_or (combined or ls rs) i [] ≡ get_or rs (i - length ls) []
  unfolding combined
  or_right i h =
      let q : i ≡ length ls + (i - length ls) = omega arith in
      ap (λ (j : ℕ). get_or (ls ++ rs) j []) q ∙ get_or-append-add ls rs (i - length ls) []

  pub and_at : (i : ℕ) → i < length ls * length rs → get_or (combined and ls rs) i [] ≡ get_or ls (i / length rs) [] ++ get_or rs (i % length rs) []
  unfolding combined
  and_at i h =
      let some : 0 < length rs = not_none (length ls) (length rs) i h in
      let split : i / length rs * length rs + i % length rs ≡ i = div-add-mod' i (length rs) in
      let inside : i / length rs < length ls = (div-lt_iff_lt-mul some).1 h in
      rw split at (pair_at rs ls (i / length rs) (i % length rs) inside (mod-lt i some))

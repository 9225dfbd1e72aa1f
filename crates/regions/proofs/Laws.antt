-- Reading and storing in a part; and a store in one region of a layout leaves every other as it is.
use mathlib.Core.Path.{◌≡◌, refl, sym, ◌∙◌, ap, fun_ext}
use mathlib.Core.Bool.{Bool, true, false, cond}
use mathlib.Core.List.{List, [], ◌∷◌}
use Prim.Native.Nat.{ℕ, zero, suc, ◌+◌, ◌-◌, ◌<◌, ◌≤◌}
use native.Mathlib.Omega.{arith}
use native.Mathlib.Decide.{dec_lt}
use lib.Dec.{eqb, ltb}
use lib.ListN.{length, get_or, set, take, drop, length-take, get_or-eq_default}
use lib.Seq.{take-set-le, take-set-lt, drop-set-lt, drop-set-add, get_or-take, get_or-drop, set_out}
use borrow.Author.Tests.{lt-ltb, le-ltb, eqb-true, eqb-false, ltb-true, ltb-false}
use Rattle.rules.specs.Lists.{sum}
use Rattle.words.specs.Words.{words}
use Rattle.regions.specs.Regions.{Layout, start_of, size_of, part, set_in, regions, stored}

-- ---- the two functions

pub at_in : (w : List ℕ) (start size i r : ℕ) → i < size → r ≡ get_or w (start + i) 0 → r ≡ get_or (part start size w) i 0
unfolding part
at_in w start size i r h e = rw (get_or-take size (drop start w) i 0 h, get_or-drop) e

pub at_past : (w : List ℕ) (start size i : ℕ) → size ≤ i → 0 ≡ get_or (part start size w) i 0
unfolding part
at_past w start size i h =
    let q : length (take size (drop start w)) ≤ i = rw length-take (omega arith) in
    sym (get_or-eq_default (take size (drop start w)) 0 q)

pub put_in : (w w' : List ℕ) (start size i v : ℕ) → i < size → w' ≡ set w (start + i) v → w' ≡ set_in w start size i v
unfolding set_in
put_in w w' start size i v h e = rw (lt-ltb i size h) e

pub put_past : (w : List ℕ) (start size i v : ℕ) → size ≤ i → w ≡ set_in w start size i v
unfolding set_in
put_past w start size i v h = rw (le-ltb i size h)

-- ---- a store, seen in a part

-- by whether the place is in the part
by_place : (i size : ℕ) (P : Bool → Type 0) → (i < size → P true) → (size ≤ i → P false) → P (ltb i size)
by_place i size P f g = go (ltb i size) refl
  where
    go : (b : Bool) → ltb i size ≡ b → P b
    go true e = f (ltb-true i size e)
    go false e = g (ltb-false i size e)

in_same : (w : List ℕ) (start size i v : ℕ) → part start size (set_in w start size i v) ≡ set (part start size w) i v
unfolding part set_in
in_same w start size i v =
    by_place i size (λ b. take size (drop start (cond b (set w (start + i) v) w)) ≡ set (take size (drop start w)) i v)
    (λ h. rw (drop-set-add, take-set-lt size (drop start w) i v h))
    (λ h. sym (set_out (take size (drop start w)) i v (rw length-take (omega arith))))

in_later : (w : List ℕ) (start size start' size' i v : ℕ) → start' + size' ≤ start → part start size (set_in w start' size' i v) ≡ part start size w
unfolding part set_in
in_later w start size start' size' i v q =
    by_place i size' (λ b. take size (drop start (cond b (set w (start' + i) v) w)) ≡ take size (drop start w))
    (λ h. rw (drop-set-lt start w (start' + i) v (omega arith))) (λ h. refl)

in_earlier : (w : List ℕ) (start size start' size' i v : ℕ) → start + size ≤ start' → part start size (set_in w start' size' i v) ≡ part start size w
unfolding part set_in
in_earlier w start size start' size' i v q =
    by_place i size' (λ b. take size (drop start (cond b (set w (start' + i) v) w)) ≡ take size (drop start w))
    (λ h.
    let k : start' + i ≡ start + (start' + i - start) = omega arith in
    ap (λ (n : ℕ). take size (drop start (set w n v))) k ∙ rw (drop-set-add, take-set-le size (drop start w) (start' + i - start) v (omega arith)))
    (λ h. refl)

-- ---- regions follow each other

-- a region ends where a later one starts, or before
pub follows : (sizes : Layout) (i j : ℕ) → i < j → start_of sizes i + size_of sizes i ≤ start_of sizes j
unfolding start_of size_of sum
follows [] zero zero h = elim h [ ]
follows [] (suc i) zero h = elim h [ ]
follows (s ∷ sizes) zero zero h = elim h [ ]
follows (s ∷ sizes) (suc i) zero h = elim h [ ]
follows [] zero (suc j) h = omega arith
follows [] (suc i) (suc j) h = omega arith
follows (s ∷ sizes) zero (suc j) h = omega arith
follows (s ∷ sizes) (suc i) (suc j) h = omega (arith, follows sizes i j (omega arith))

-- and none ends behind the sum of all sizes
pub ends_within : (sizes : Layout) (j : ℕ) → start_of sizes j + size_of sizes j ≤ sum sizes
unfolding start_of size_of sum
ends_within [] zero = omega arith
ends_within [] (suc j) = omega arith
ends_within (s ∷ sizes) zero = omega arith
ends_within (s ∷ sizes) (suc j) = omega (arith, ends_within sizes j)

apart : (m j : ℕ) → (m < j → ⊥) → (m ≡ j → ⊥) → j < m
apart m j h n = elim (dec_lt j m) [ yes l ↦ l | no l ↦ absurd (n (omega arith)) ]

store_at : (sizes : Layout) (b b' : List ℕ) (j i v m : ℕ) → words b' ≡ set_in (words b) (start_of sizes j) (size_of sizes j) i v
    → regions sizes b' m ≡ stored (regions sizes b) j i v m
unfolding regions stored
store_at sizes b b' j i v m e = rw e (go (eqb m j) refl)
  where
    go : (q : Bool) → eqb m j ≡ q
        → part (start_of sizes m) (size_of sizes m) (set_in (words b) (start_of sizes j) (size_of sizes j) i v)
        ≡ cond q (set (part (start_of sizes m) (size_of sizes m) (words b)) i v) (part (start_of sizes m) (size_of sizes m) (words b))
    go true q = rw (eqb-true m j q) (in_same (words b) (start_of sizes j) (size_of sizes j) i v)
    go false q =
        let n = eqb-false m j q in
        elim (dec_lt m j) [
          | yes h ↦ in_earlier (words b) (start_of sizes m) (size_of sizes m) (start_of sizes j) (size_of sizes j) i v (follows sizes m j h)
          | no h ↦ in_later (words b) (start_of sizes m) (size_of sizes m) (start_of sizes j) (size_of sizes j) i v (follows sizes j m (apart m j h n))
        ]

-- A STORE IN ONE REGION: the others stay as they are
pub store_in : (sizes : Layout) (b b' : List ℕ) (j i v : ℕ) → words b' ≡ set_in (words b) (start_of sizes j) (size_of sizes j) i v
    → regions sizes b' ≡ stored (regions sizes b) j i v
store_in sizes b b' j i v e = fun_ext (λ m. store_at sizes b b' j i v m e)

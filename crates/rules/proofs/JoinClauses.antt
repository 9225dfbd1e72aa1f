-- The clauses of a join: with those stored before, one for each part i and each helper j, which says that the helper agrees with bit j of i.
use mathlib.Core.Path.{◌≡◌, refl}
use mathlib.Core.Logic.{◌⊎◌, inl, inr, ⊎_elim}
use mathlib.Core.Bool.{Bool, true, false, cond}
use mathlib.Core.List.Memᴰ
use mathlib.Core.List.{List, [], ◌∷◌, ◌++◌}
use Prim.Native.Nat.{ℕ, zero, suc, ◌+◌, ◌-◌, ◌<◌, ◌≤◌, zero-le, suc-le-suc}
use native.Mathlib.Nat.{add-zero, add-suc, suc-add, zero-add, le_refl, le_trans, le_of_suc-le-suc, not-suc-le-zero}
use native.Mathlib.Decide.{dec_lt}
use native.Mathlib.Omega.{arith}
use lib.ListN.{length, get_or, drop, length-append, length-drop, get_or-append}
use lib.Seq.{get_or-append_seam, get_or-drop}
use Rattle.rules.specs.Clause.{Clause}
use Rattle.rules.specs.AtMostOne.{bit, helpers_after, helpers_for, agrees, helper_clauses, helpers_clauses, part_clauses, join_clauses}
use Rattle.rules.specs.Called.{◌∈◌}
use Rattle.rules.proofs.AtMostOne.{at_snoc}

-- ---- more parts never have fewer helpers

one_more : (b : Bool) (h : ℕ) → h ≤ cond b (suc h) h
one_more true h = omega arith
one_more false h = le_refl h

after_more : (h k : ℕ) → h ≤ helpers_after h k
unfolding helpers_after
after_more h k = search one_more

helpers_grow : (k d : ℕ) → helpers_for k ≤ helpers_for (d + k)
unfolding helpers_for
helpers_grow k zero = rw zero-add (le_refl (helpers_for k))
helpers_grow k (suc d) = rw suc-add (le_trans (helpers_grow k d) (after_more (helpers_for (d + k)) (suc (d + k))))

pub more_helpers : (k m : ℕ) → k ≤ m → helpers_for k ≤ helpers_for m
more_helpers k m h = let e : m - k + k ≡ m = omega arith in rw e at (helpers_grow k (m - k))

-- ---- part i and helper j

pub record Bit (xs ys : List ℕ) (k : Clause) : Type 0 where
  pub place : ℕ
  pub helper : ℕ
  pub place_below : place < length xs
  pub helper_below : helper < length ys
  pub is : k ≡ agrees (get_or xs place 0) (get_or ys helper 0) (bit helper place)

helper_every : (y j i : ℕ) (xs : List ℕ) (m : ℕ) → m < length xs → agrees (get_or xs m 0) y (bit j (i + m)) ∈ helper_clauses y j i xs
unfolding helper_clauses
helper_every y j i [] m l = absurd (not-suc-le-zero l)
helper_every y j i (x ∷ xs) zero l = rw add-zero (Memᴰ.head refl)
helper_every y j i (x ∷ xs) (suc m) l = rw (add-suc, ← suc-add) (Memᴰ.tail (helper_every y j (suc i) xs m (le_of_suc-le-suc l)))

helper_only : (y j i : ℕ) (xs : List ℕ) {k : Clause} → k ∈ helper_clauses y j i xs → (m : ℕ) × (m < length xs) × (k ≡ agrees (get_or xs m 0) y (bit j (i + m)))
unfolding helper_clauses
helper_only y j i [] m = elim m [ ]
helper_only y j i (x ∷ xs) (Memᴰ.head q) = (zero, suc-le-suc zero-le, rw add-zero q)
helper_only y j i (x ∷ xs) (Memᴰ.tail m) = let r = helper_only y j (suc i) xs m in (suc r.0, suc-le-suc r.1, rw (add-suc, ← suc-add) r.2)

helpers_every : (j : ℕ) (ys xs : List ℕ) (m i : ℕ) → m < length ys → i < length xs → agrees (get_or xs i 0) (get_or ys m 0) (bit (j + m) i) ∈ helpers_clauses j ys xs
unfolding helpers_clauses
helpers_every j [] xs m i l h = absurd (not-suc-le-zero l)
helpers_every j (y ∷ ys) xs zero i l h = rw add-zero (Memᴰ.append_left _ (rw (zero-add i) at (helper_every y j 0 xs i h)))
helpers_every j (y ∷ ys) xs (suc m) i l h = Memᴰ.append_right (helper_clauses y j 0 xs) (rw (add-suc, ← suc-add) (helpers_every (suc j) ys xs m i (le_of_suc-le-suc l) h))

helpers_only : (j : ℕ) (ys xs : List ℕ) {k : Clause} → k ∈ helpers_clauses j ys xs
    → (m : ℕ) × (i : ℕ) × (m < length ys) × (i < length xs) × (k ≡ agrees (get_or xs i 0) (get_or ys m 0) (bit (j + m) i))
unfolding helpers_clauses
helpers_only j [] xs m = elim m [ ]
helpers_only j (y ∷ ys) xs m =
    ⊎_elim (λ m. let r = helper_only y j 0 xs m in (zero, r.0, suc-le-suc zero-le, r.1, rw add-zero (rw (zero-add r.0) at r.2)))
    (λ m. let r = helpers_only (suc j) ys xs m in (suc r.0, r.1, suc-le-suc r.2, r.3, rw (add-suc, ← suc-add) r.4))
    (Memᴰ.append_cases (helper_clauses y j 0 xs) m)

part_every : (x i j : ℕ) (ys : List ℕ) (m : ℕ) → m < length ys → agrees x (get_or ys m 0) (bit (j + m) i) ∈ part_clauses x i j ys
unfolding part_clauses
part_every x i j [] m l = absurd (not-suc-le-zero l)
part_every x i j (y ∷ ys) zero l = rw add-zero (Memᴰ.head refl)
part_every x i j (y ∷ ys) (suc m) l = rw (add-suc, ← suc-add) (Memᴰ.tail (part_every x i (suc j) ys m (le_of_suc-le-suc l)))

part_only : (x i j : ℕ) (ys : List ℕ) {k : Clause} → k ∈ part_clauses x i j ys → (m : ℕ) × (m < length ys) × (k ≡ agrees x (get_or ys m 0) (bit (j + m) i))
unfolding part_clauses
part_only x i j [] m = elim m [ ]
part_only x i j (y ∷ ys) (Memᴰ.head q) = (zero, suc-le-suc zero-le, rw add-zero q)
part_only x i j (y ∷ ys) (Memᴰ.tail m) = let r = part_only x i (suc j) ys m in (suc r.0, suc-le-suc r.1, rw (add-suc, ← suc-add) r.2)

-- ---- the join: the parts xs, and x behind them

new_helpers : (g : ℕ) (xs : List ℕ) (x : ℕ) (ys : List ℕ) {k : Clause} → k ∈ helpers_clauses g (drop g ys) xs → Bit (xs ++ (x ∷ [])) ys k
new_helpers g xs x ys m =
    let r = helpers_only g (drop g ys) xs m in
    record {
      place = r.1;
      helper = g + r.0;
      place_below = rw (length-append xs (x ∷ [])) (omega (arith, r.3));
      helper_below = omega (arith, length-drop g ys, r.2);
      is = rw (get_or-append xs (x ∷ []) 0 r.1 r.3, ← (get_or-drop g ys r.0 0)) r.4;
    }

new_part : (xs : List ℕ) (x : ℕ) (ys : List ℕ) {k : Clause} → k ∈ part_clauses x (length xs) 0 ys → Bit (xs ++ (x ∷ [])) ys k
new_part xs x ys m =
    let r = part_only x (length xs) 0 ys m in
    record {
      place = length xs;
      helper = r.0;
      place_below = rw (length-append xs (x ∷ [])) (omega arith);
      helper_below = r.1;
      is = rw (get_or-append_seam xs x [] 0) (rw (zero-add r.0) at r.2);
    }

pub join_only : (xs : List ℕ) (x : ℕ) (ys : List ℕ) {k : Clause} → k ∈ join_clauses xs x ys → Bit (xs ++ (x ∷ [])) ys k
unfolding join_clauses
join_only xs x ys m = ⊎_elim (new_helpers _ xs x ys) (new_part xs x ys) (Memᴰ.append_cases (helpers_clauses _ _ xs) m)

from_helper : (g : ℕ) (xs ys : List ℕ) (i j : ℕ) → i < length xs → g ≤ j → j < length ys → agrees (get_or xs i 0) (get_or ys j 0) (bit j i) ∈ helpers_clauses g (drop g ys) xs
from_helper g xs ys i j l h b = go (j - g) (omega arith)
  where
    go : (m : ℕ) → g + m ≡ j → agrees (get_or xs i 0) (get_or ys j 0) (bit j i) ∈ helpers_clauses g (drop g ys) xs
    go m e = rw (← e, ← (get_or-drop g ys m 0)) (helpers_every g (drop g ys) xs m i (omega (arith, length-drop g ys)) l)

-- every clause for a part and a helper is among them, but for those of the older parts and helpers
pub join_every : (xs : List ℕ) (x : ℕ) (ys : List ℕ) (i j : ℕ) → i < length (xs ++ (x ∷ [])) → j < length ys
    → ((i < length xs) × (j < helpers_for (length xs))) ⊎ (agrees (get_or (xs ++ (x ∷ [])) i 0) (get_or ys j 0) (bit j i) ∈ join_clauses xs x ys)
unfolding join_clauses
join_every xs x ys i j l b = ⊎_elim (λ p. rw p.1 (older p.0)) (λ p. inr (rw (p.1, p.0) newest)) (at_snoc xs x i l)
  where
    older : i < length xs → ((i < length xs) × (j < helpers_for (length xs))) ⊎ (agrees (get_or xs i 0) (get_or ys j 0) (bit j i) ∈ join_clauses xs x ys)
    older li = elim (dec_lt j (helpers_for (length xs))) [ yes q ↦ inl (li, q) | no q ↦ inr (Memᴰ.append_left _ (from_helper _ xs ys i j li (omega arith) b)) ]

    newest : agrees x (get_or ys j 0) (bit j (length xs)) ∈ join_clauses xs x ys
    newest = Memᴰ.append_right (helpers_clauses _ _ xs) (rw (zero-add j) at (part_every x (length xs) 0 ys j b))

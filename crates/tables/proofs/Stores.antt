-- Some numbers stored one after the other: what stands where they were stored, and that nothing else has changed.
use mathlib.Core.Path.{◌≡◌, refl, sym, ◌∙◌}
use mathlib.Core.List.{List, [], ◌∷◌, ◌++◌}
use Prim.Native.Nat.{ℕ, zero, suc, ◌+◌, ◌<◌, ◌≤◌}
use native.Mathlib.Omega.{arith}
use native.Mathlib.Nat.{not-suc-le-zero, le_of_suc-le-suc, add-zero}
use lib.ListN.{length, get_or, set, length-set}
use lib.Seq.{sets, length-sets, get_or-set_same, get_or-set_other}

-- w' is w with xs stored from `at` on
pub record Stored (w : List ℕ) (at : ℕ) (xs w' : List ℕ) : Type 0 where
  pub is : w' ≡ sets w at xs

sets_outside : (w : List ℕ) (at : ℕ) (xs : List ℕ) (i : ℕ) → (at ≤ i → i < at + length xs → ⊥) → get_or (sets w at xs) i 0 ≡ get_or w i 0
sets_outside w at [] i out = refl
sets_outside w at (x ∷ xs) i out =
    sets_outside (set w at x) (suc at) xs i (λ a b. out (omega arith) (omega arith))
    ∙ get_or-set_other w at i x 0 (λ e. out (omega arith) (omega arith))

sets_inside : (w : List ℕ) (at : ℕ) (xs : List ℕ) (j : ℕ) → j < length xs → at + length xs ≤ length w → get_or (sets w at xs) (at + j) 0 ≡ get_or xs j 0
sets_inside w at [] j h l = absurd (not-suc-le-zero h)
sets_inside w at (x ∷ xs) zero h l =
    rw add-zero
    (sets_outside (set w at x) (suc at) xs at (λ a b. omega arith)
    ∙ get_or-set_same w at x 0 (omega arith))
sets_inside w at (x ∷ xs) (suc j) h l =
    let q : at + suc j ≡ suc at + j = omega arith in
    rw q (sets_inside (set w at x) (suc at) xs j (le_of_suc-le-suc h) (simp length-set (omega arith)))

sets_more : (w : List ℕ) (at : ℕ) (xs : List ℕ) (x : ℕ) → sets w at (xs ++ (x ∷ [])) ≡ set (sets w at xs) (at + length xs) x
sets_more w at [] x = rw add-zero
sets_more w at (y ∷ xs) x =
    let q : at + suc (length xs) ≡ suc at + length xs = omega arith in
    rw q (sets_more (set w at y) (suc at) xs x)

pub first : {w : List ℕ} {at : ℕ} {u : List ℕ} (x : ℕ) → u ≡ set w at x → Stored w at (x ∷ []) u
first x e = record { is = e }

-- and one number more, behind those
pub then : {w : List ℕ} {at : ℕ} {xs u v : List ℕ} → Stored w at xs u → (x : ℕ) → v ≡ set u (at + length xs) x → Stored w at (xs ++ (x ∷ [])) v
then {w} {at} {xs} s x e = record { is = e ∙ rw s.is (sym (sets_more w at xs x)) }

module _ {w : List ℕ} {at : ℕ} {xs w' : List ℕ} (s : Stored w at xs w') where
  pub stored_outside : (i : ℕ) → (at ≤ i → i < at + length xs → ⊥) → get_or w' i 0 ≡ get_or w i 0
  stored_outside i out = rw s.is (sets_outside w at xs i out)

  pub stored_inside : (j : ℕ) → j < length xs → at + length xs ≤ length w → get_or w' (at + j) 0 ≡ get_or xs j 0
  stored_inside j h l = rw s.is (sets_inside w at xs j h l)

  pub stored_length : length w' ≡ length w
  stored_length = rw s.is (length-sets w at xs)

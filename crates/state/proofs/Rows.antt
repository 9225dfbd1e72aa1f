-- Tables of rows: the first n rows of a region, one row more, and rows that are the same.
use mathlib.Core.Path.{◌≡◌, refl, sym, ◌∙◌, ap}
use mathlib.Core.List.{List, [], ◌∷◌, ◌++◌, map}
use Prim.Native.Nat.{ℕ, zero, suc, ◌+◌, ◌<◌}
use native.Mathlib.Nat.{le_of_suc-le-suc, not-suc-le-zero, add-zero}
use native.Mathlib.Numerals.{add-one}
use native.Mathlib.Omega.{arith}
use lib.ListN.{length, get_or, length-map}
use Rattle.rules.specs.Lists.{snoc, up_to}
use Rattle.rules.proofs.ListLaws.{length_up_to}

module _ {A : Type 0} where
  pub length_rows : (f : ℕ → A) (n : ℕ) → length (map f (up_to 0 n)) ≡ n
  length_rows f n = length-map (up_to 0 n) f ∙ length_up_to 0 n

  numbered : (f : ℕ → A) (d : A) (i n j : ℕ) → j < n → get_or (map f (up_to i n)) j d ≡ f (i + j)
  unfolding up_to
  numbered f d i zero j h = absurd (not-suc-le-zero h)
  numbered f d i (suc n) zero h = ap f (sym (add-zero i))
  numbered f d i (suc n) (suc j) h =
      let e : suc i + j ≡ i + suc j = omega arith in
      numbered f d (suc i) n j (le_of_suc-le-suc h) ∙ ap f e

  pub row_at_law : (f : ℕ → A) (d : A) (n i : ℕ) → i < n → get_or (map f (up_to 0 n)) i d ≡ f i
  row_at_law f d n i h =
      let e : 0 + i ≡ i = omega arith in
      numbered f d 0 n i h ∙ ap f e

  more : (f : ℕ → A) (i n : ℕ) → map f (up_to i (suc n)) ≡ map f (up_to i n) ++ (f (i + n) ∷ [])
  unfolding up_to
  more f i zero = rw add-zero
  more f i (suc n) =
      let e : suc i + n ≡ i + suc n = omega arith in
      rw (← e) (ap (λ (l : List A). f i ∷ l) (more f (suc i) n))

  -- one row more
  pub rows_more : (f : ℕ → A) (n : ℕ) → map f (up_to 0 (n + 1)) ≡ snoc (map f (up_to 0 n)) (f n)
  unfolding snoc
  rows_more f n =
      let e : 0 + n ≡ n = omega arith in
      rw add-one (rw e at (more f 0 n))

  same : (f g : ℕ → A) (i n : ℕ) → ((j : ℕ) → j < i + n → f j ≡ g j) → map f (up_to i n) ≡ map g (up_to i n)
  unfolding up_to
  same f g i zero h = refl
  same f g i (suc n) h = rw (h i (omega arith), same f g (suc i) n (λ j k. h j (omega arith)))

  pub rows_same : (f g : ℕ → A) (n : ℕ) → ((j : ℕ) → j < n → f j ≡ g j) → map f (up_to 0 n) ≡ map g (up_to 0 n)
  rows_same f g n h = same f g 0 n (λ j k. h j (omega arith))

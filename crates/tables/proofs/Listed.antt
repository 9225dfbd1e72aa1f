-- A list of n things given by their number: its length, what stands at a number and past the end, and the list with one thing more.
use mathlib.Core.Path.{◌≡◌, refl, ap, ◌∙◌}
use mathlib.Core.List.{List, ◌∷◌, map}
use Prim.Native.Nat.{ℕ, zero, suc, ◌+◌, ◌<◌, ◌≤◌, zero-le, suc-le-suc}
use native.Mathlib.Omega.{arith}
use native.Mathlib.Nat.{not-suc-le-zero, le_of_suc-le-suc, add-zero, add-suc, suc-add}
use native.Mathlib.Numerals.{add-one}
use lib.ListN.{length, get_or}
use Rattle.rules.specs.Lists.{snoc, up_to}
use Rattle.tables.specs.Tables.{listed}

module _ {A : Type 0} where
  -- the same of the numbers from b on
  from_at : (f : ℕ → A) (b n i : ℕ) (d : A) → i < n → get_or (map f (up_to b n)) i d ≡ f (b + i)
  unfolding up_to
  from_at f b zero i d h = absurd (not-suc-le-zero h)
  from_at f b (suc n) zero d h = rw add-zero
  from_at f b (suc n) (suc i) d h = from_at f (suc b) n i d (le_of_suc-le-suc h) ∙ ap f (omega arith)

  from_past : (f : ℕ → A) (b n i : ℕ) (d : A) → n ≤ i → get_or (map f (up_to b n)) i d ≡ d
  unfolding up_to
  from_past f b zero i d h = refl
  from_past f b (suc n) zero d h = absurd (not-suc-le-zero h)
  from_past f b (suc n) (suc i) d h = from_past f (suc b) n i d (le_of_suc-le-suc h)

  from_more : (f : ℕ → A) (b n : ℕ) → map f (up_to b (suc n)) ≡ snoc (map f (up_to b n)) (f (b + n))
  unfolding up_to snoc
  from_more f b zero = rw add-zero
  from_more f b (suc n) = ap (λ (l : List A). f b ∷ l) (from_more f (suc b) n ∙ rw (suc-add b n, add-suc b n))

  from_same : (f g : ℕ → A) (b n : ℕ) → ((i : ℕ) → i < n → f (b + i) ≡ g (b + i)) → map f (up_to b n) ≡ map g (up_to b n)
  unfolding up_to
  from_same f g b zero e = refl
  from_same f g b (suc n) e =
      let first : f b ≡ g b = rw add-zero at (e 0 (suc-le-suc zero-le)) in
      let rest = from_same f g (suc b) n (λ i h. let q : suc b + i ≡ b + suc i = omega arith in rw q (e (suc i) (suc-le-suc h))) in
      rw (first, rest)

  from_length : (f : ℕ → A) (b n : ℕ) → length (map f (up_to b n)) ≡ n
  unfolding up_to
  from_length f b zero = refl
  from_length f b (suc n) = ap suc (from_length f (suc b) n)

  pub listed_at : (n : ℕ) (f : ℕ → A) (i : ℕ) (d : A) → i < n → get_or (listed n f) i d ≡ f i
  unfolding listed
  listed_at n f i d h = from_at f 0 n i d h ∙ ap f (omega arith)

  pub listed_past : (n : ℕ) (f : ℕ → A) (i : ℕ) (d : A) → n ≤ i → get_or (listed n f) i d ≡ d
  unfolding listed
  listed_past n f i d h = from_past f 0 n i d h

  pub listed_more : (n : ℕ) (f : ℕ → A) → listed (n + 1) f ≡ snoc (listed n f) (f n)
  unfolding listed
  listed_more n f =
      let q : 0 + n ≡ n = omega arith in
      rw add-one (rw q at (from_more f 0 n))

  pub listed_same : (n : ℕ) (f g : ℕ → A) → ((i : ℕ) → i < n → f i ≡ g i) → listed n f ≡ listed n g
  unfolding listed
  listed_same n f g e = from_same f g 0 n (λ i h. let q : 0 + i ≡ i = omega arith in rw q (e i h))

  pub listed_length : (n : ℕ) (f : ℕ → A) → length (listed n f) ≡ n
  unfolding listed
  listed_length n f = from_length f 0 n

-- Tests on lists, said by members: what `any`, `all`, `count`, `filter`, `concat_map`, `index_of`, `get_or` and `up_to` tell of the elements.
use mathlib.Core.Path.{◌≡◌, refl, sym, ◌∙◌, ap}
use mathlib.Core.Logic.{⊎_elim}
use mathlib.Core.Bool.{Bool, true, false, not, ◌||◌, cond, false≢true}
use mathlib.Core.List.Memᴰ
use mathlib.Core.List.{List, [], ◌∷◌}
use Prim.Native.Nat.{ℕ, zero, suc, ◌+◌, ◌<◌, ◌≤◌, zero-le, suc-le-suc}
use native.Mathlib.Nat.{le_of_suc-le-suc, not-suc-le-zero}
use native.Mathlib.Decide.{dec_lt}
use native.Mathlib.Omega.{arith}
use lib.ListN.{length, get_or}
use Rattle.rules.specs.Lists.{filter, any, all, count, index_of, concat_map, up_to}
use Rattle.rules.specs.Called.{◌∈◌}
use Rattle.rules.proofs.Bools.{and_left, and_right, and_both}

-- ---- tests

-- `cc` proves equations only: where two constructors would be equal, it proves this one
pub not_one : ◌≡◌ {A = ℕ} 0 1 → ⊥
not_one z = omega arith

never_true : (b : Bool) → (b ≡ true → ⊥) → b ≡ false
never_true true f = absurd (f refl)
never_true false f = refl

pub contrary : (a b : Bool) → (a ≡ true → b ≡ true) → b ≡ false → a ≡ false
contrary true b f e = sym (f refl) ∙ e
contrary false b f e = refl

-- "not a, or b"
pub implies_out : (a b : Bool) → (not a || b) ≡ true → a ≡ true → b ≡ true
implies_out true b e h = e
implies_out false b e h = absurd (false≢true h)

pub implies_in : (a b : Bool) → (a ≡ true → b ≡ true) → (not a || b) ≡ true
implies_in true b f = f refl
implies_in false b f = refl

-- ---- all, some, none

module _ {A : Type 0} (f : A → Bool) where
  pub all_out : (xs : List A) → all f xs ≡ true → (x : A) → x ∈ xs → f x ≡ true
  unfolding all
  all_out [] e x m = elim m [ ]
  all_out (y ∷ xs) e x (Memᴰ.head q) = rw q (and_left (f y) (all f xs) e)
  all_out (y ∷ xs) e x (Memᴰ.tail m) = all_out xs (and_right (f y) (all f xs) e) x m

  pub all_in : (xs : List A) → ((x : A) → x ∈ xs → f x ≡ true) → all f xs ≡ true
  unfolding all
  all_in [] h = refl
  all_in (y ∷ xs) h = and_both (f y) (all f xs) (h y (Memᴰ.head refl)) (all_in xs (λ x m. h x (Memᴰ.tail m)))

  pub any_out : (xs : List A) → any f xs ≡ true → (x : A) × (x ∈ xs) × (f x ≡ true)
  unfolding any
  any_out [] e = absurd (false≢true e)
  any_out (y ∷ xs) e = go (f y) refl e (any_out xs)
    where
      go : (b : Bool) → f y ≡ b → (b || any f xs) ≡ true → (any f xs ≡ true → (x : A) × (x ∈ xs) × (f x ≡ true)) → (x : A) × (x ∈ y ∷ xs) × (f x ≡ true)
      go true q e h = (y, Memᴰ.head refl, q)
      go false q e h = let r = h e in (r.0, Memᴰ.tail r.1, r.2)

  pub any_in : (xs : List A) (x : A) → x ∈ xs → f x ≡ true → any f xs ≡ true
  unfolding any
  any_in [] x m e = elim m [ ]
  any_in (y ∷ xs) x (Memᴰ.head q) e = rw (← q, e)
  any_in (y ∷ xs) x (Memᴰ.tail m) e = or_right (f y) (any f xs) (any_in xs x m e)
    where
      or_right : (a b : Bool) → b ≡ true → (a || b) ≡ true
      or_right true b e = refl
      or_right false b e = e

  pub none_out : (xs : List A) → any f xs ≡ false → (x : A) → x ∈ xs → f x ≡ false
  none_out xs e x m = contrary (f x) (any f xs) (any_in xs x m) e

  pub none_in_law : (xs : List A) → ((x : A) → x ∈ xs → f x ≡ false) → any f xs ≡ false
  unfolding any
  none_in_law [] h = refl
  none_in_law (y ∷ xs) h = rw (h y (Memᴰ.head refl)) (none_in_law xs (λ x m. h x (Memᴰ.tail m)))

  -- ---- chosen and joined

  pub filter_out : (xs : List A) (x : A) → x ∈ filter f xs → (x ∈ xs) × (f x ≡ true)
  unfolding filter
  filter_out [] x m = absurd (Memᴰ.not-nil m)
  filter_out (y ∷ xs) x m = go (f y) refl m (filter_out xs x)
    where
      first : f y ≡ true → x ∈ y ∷ filter f xs → (x ∈ filter f xs → (x ∈ xs) × (f x ≡ true)) → (x ∈ y ∷ xs) × (f x ≡ true)
      first q (Memᴰ.head e) h = (Memᴰ.head e, rw e q)
      first q (Memᴰ.tail m) h = let r = h m in (Memᴰ.tail r.0, r.1)

      go : (b : Bool) → f y ≡ b → x ∈ elim b [ true ↦ y ∷ filter f xs | false ↦ filter f xs ]
          → (x ∈ filter f xs → (x ∈ xs) × (f x ≡ true)) → (x ∈ y ∷ xs) × (f x ≡ true)
      go true q m h = first q m h
      go false q m h = let r = h m in (Memᴰ.tail r.0, r.1)

  pub filter_in : (xs : List A) (x : A) → x ∈ xs → f x ≡ true → x ∈ filter f xs
  unfolding filter
  filter_in [] x m e = elim m [ ]
  filter_in (y ∷ xs) x (Memᴰ.head q) e = let e' : f y ≡ true = rw q at e in rw (e', filter) (Memᴰ.head q)
  filter_in (y ∷ xs) x (Memᴰ.tail m) e = go (f y) (filter_in xs x m e)
    where
      go : (b : Bool) → x ∈ filter f xs → x ∈ elim b [ true ↦ y ∷ filter f xs | false ↦ filter f xs ]
      go true m = Memᴰ.tail m
      go false m = m

module _ {A B : Type 0} (f : A → List B) where
  pub concat_out : (xs : List A) (y : B) → y ∈ concat_map f xs → (x : A) × (x ∈ xs) × (y ∈ f x)
  unfolding concat_map
  concat_out [] y m = absurd (Memᴰ.not-nil m)
  concat_out (x ∷ xs) y m =
      ⊎_elim (λ h. (x, Memᴰ.head refl, h)) (λ h. let r = concat_out xs y h in (r.0, Memᴰ.tail r.1, r.2)) (Memᴰ.append_cases (f x) m)

  pub concat_in : (xs : List A) (x : A) (y : B) → x ∈ xs → y ∈ f x → y ∈ concat_map f xs
  unfolding concat_map
  concat_in [] x y m h = elim m [ ]
  concat_in (z ∷ xs) x y (Memᴰ.head q) h = Memᴰ.append_left (concat_map f xs) (rw q at h)
  concat_in (z ∷ xs) x y (Memᴰ.tail m) h = Memᴰ.append_right (f z) (concat_in xs x y m h)

-- ---- places

module _ {A : Type 0} (f : A → Bool) where
  pub index_any : (xs : List A) → index_of f xs < length xs → any f xs ≡ true
  unfolding any index_of
  index_any [] l = absurd (not-suc-le-zero l)
  index_any (x ∷ xs) l = go (f x) l (index_any xs)
    where
      go : (b : Bool) → elim b [ true ↦ 0 | false ↦ suc (index_of f xs) ] < suc (length xs) → (index_of f xs < length xs → any f xs ≡ true) → (b || any f xs) ≡ true
      go true l h = refl
      go false l h = h (le_of_suc-le-suc l)

pub at_member : {A : Type 0} (xs : List A) (i : ℕ) (d : A) → i < length xs → get_or xs i d ∈ xs
at_member [] i d l = absurd (not-suc-le-zero l)
at_member (x ∷ xs) zero d l = Memᴰ.head refl
at_member (x ∷ xs) (suc i) d l = Memᴰ.tail (at_member xs i d (le_of_suc-le-suc l))

pub up_to_out : (i n x : ℕ) → x ∈ up_to i n → (i ≤ x) × (x < i + n)
unfolding up_to
up_to_out i zero x m = absurd (Memᴰ.not-nil m)
up_to_out i (suc n) x (Memᴰ.head e) = omega arith
up_to_out i (suc n) x (Memᴰ.tail m) = let r = up_to_out (suc i) n x m in omega arith

pub up_to_in : (i n x : ℕ) → i ≤ x → x < i + n → x ∈ up_to i n
unfolding up_to
up_to_in i zero x h l = let none : ⊥ = omega arith in absurd none
up_to_in i (suc n) x h l = elim (dec_lt i x) [ yes q ↦ Memᴰ.tail (up_to_in (suc i) n x q (omega arith)) | no q ↦ Memᴰ.head {x = i} (omega arith) ]

-- ---- how many pass

module _ (f : ℕ → Bool) where
  none_counted : (xs : List ℕ) → ((i : ℕ) → i < length xs → f (get_or xs i 0) ≡ true → ⊥) → count f xs ≡ 0
  unfolding count
  none_counted [] h = refl
  none_counted (x ∷ xs) h =
      rw (never_true (f x) (h zero (suc-le-suc zero-le))) (omega (arith, none_counted xs (λ i l. h (suc i) (suc-le-suc l))))

  -- at most one passes, if no two places do
  pub count_one : (xs : List ℕ) → ((i j : ℕ) → i < length xs → j < length xs → f (get_or xs i 0) ≡ true → f (get_or xs j 0) ≡ true → i ≡ j) → count f xs ≤ 1
  unfolding count
  count_one [] h = zero-le
  count_one (x ∷ xs) h = go (f x) refl (count_one xs)
    where
      go : (b : Bool) → f x ≡ b
          → (((i j : ℕ) → i < length xs → j < length xs → f (get_or xs i 0) ≡ true → f (get_or xs j 0) ≡ true → i ≡ j) → count f xs ≤ 1) → cond b 1 0 + count f xs ≤ 1
      go true e k = omega (arith, none_counted xs (λ i l p. let q : suc i ≡ 0 = h (suc i) zero (suc-le-suc l) (suc-le-suc zero-le) p e in omega arith))
      go false e k = omega (arith, k (λ i j li lj p q. omega (arith, h (suc i) (suc j) (suc-le-suc li) (suc-le-suc lj) p q)))

  some_counted : (xs : List ℕ) (i : ℕ) → i < length xs → f (get_or xs i 0) ≡ true → 1 ≤ count f xs
  unfolding count
  some_counted [] i l h = absurd (not-suc-le-zero l)
  some_counted (x ∷ xs) zero l h = rw h (omega arith)
  some_counted (x ∷ xs) (suc i) l h = omega (arith, some_counted xs i (le_of_suc-le-suc l) h)

  -- where at most one passes, it is the first
  pub index_one : (xs : List ℕ) → count f xs ≤ 1 → (i : ℕ) → i < length xs → f (get_or xs i 0) ≡ true → index_of f xs ≡ i
  unfolding count index_of
  index_one [] c i l h = absurd (not-suc-le-zero l)
  index_one (x ∷ xs) c i l h = go (f x) refl c i l h (index_one xs)
    where
      go : (b : Bool) → f x ≡ b → cond b 1 0 + count f xs ≤ 1 → (i : ℕ) → i < suc (length xs) → f (get_or (x ∷ xs) i 0) ≡ true
          → (count f xs ≤ 1 → (i : ℕ) → i < length xs → f (get_or xs i 0) ≡ true → index_of f xs ≡ i) → elim b [ true ↦ 0 | false ↦ suc (index_of f xs) ] ≡ i
      go true e c zero l h k = refl
      go true e c (suc i) l h k = let s = some_counted xs i (le_of_suc-le-suc l) h in omega arith
      go false e c zero l h k = absurd (false≢true (sym e ∙ h))
      go false e c (suc i) l h k = ap suc (k (omega arith) i (le_of_suc-le-suc l) h)

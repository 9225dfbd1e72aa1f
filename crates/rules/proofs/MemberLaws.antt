-- Membership in the lists that specs/Lists.antt makes, and lists made by functions that agree on the members.
use mathlib.Core.Path.{◌≡◌, refl, sym, ◌∙◌, ap}
use mathlib.Core.Logic.{⊎_elim}
use mathlib.Core.Bool.{Bool, true, false, ◌&&◌, false≢true}
use mathlib.Core.List.Memᴰ
use mathlib.Core.List.{List, [], ◌∷◌, ◌++◌, map}
use Prim.Native.Nat.{ℕ, zero, suc, ◌+◌, ◌<◌, ◌≤◌}
use native.Mathlib.Nat.{add-zero, add-suc, suc-add, le_of_suc-le-suc, not-suc-le-zero}
use native.Mathlib.Omega.{arith}
use lib.ListN.{length, get_or, drop}
use Rattle.rules.specs.Lists.{filter, list_if, concat_map, up_to}
use Rattle.rules.specs.Called.{◌∈◌}
use Rattle.rules.proofs.ListLaws.{All, all_append, length_up_to}

module _ {A : Type 0} where
  -- ---- one more at the end

  pub last_in : {x : A} (xs : List A) → x ∈ (xs ++ (x ∷ []))
  last_in xs = Memᴰ.append_right xs (Memᴰ.head refl)

  pub length_snoc : (xs : List A) (x : A) → length (xs ++ (x ∷ [])) ≡ suc (length xs)
  length_snoc [] x = refl
  length_snoc (y ∷ xs) x = ap suc (length_snoc xs x)

  -- ---- a test

  pub of_list_if : {x : A} (b : Bool) (xs : List A) → x ∈ list_if b xs → (b ≡ true) × (x ∈ xs)
  unfolding list_if
  of_list_if true xs m = (refl, m)
  of_list_if false xs m = elim m [ ]

  pub in_list_if : {x : A} (b : Bool) {xs : List A} → b ≡ true → x ∈ xs → x ∈ list_if b xs
  unfolding list_if
  in_list_if true e m = m
  in_list_if false e m = absurd (false≢true e)

  pub in_filter : {x : A} (f : A → Bool) (xs : List A) → x ∈ xs → f x ≡ true → x ∈ filter f xs
  unfolding filter
  in_filter f [] m e = elim m [ ]
  in_filter {x} f (y ∷ xs) (Memᴰ.head q) e = go (f y) (rw q at e)
    where
      go : (b : Bool) → b ≡ true → x ∈ elim b [ true ↦ y ∷ filter f xs | false ↦ filter f xs ]
      go true e = Memᴰ.head q
      go false e = absurd (false≢true e)
  in_filter {x} f (y ∷ xs) (Memᴰ.tail m) e = go (f y) (in_filter f xs m e)
    where
      go : (b : Bool) → x ∈ filter f xs → x ∈ elim b [ true ↦ y ∷ filter f xs | false ↦ filter f xs ]
      go true m = Memᴰ.tail m
      go false m = m

  pub of_filter : {x : A} (f : A → Bool) (xs : List A) → x ∈ filter f xs → (x ∈ xs) × (f x ≡ true)
  unfolding filter
  of_filter f [] m = elim m [ ]
  of_filter {x} f (y ∷ xs) m = go (f y) refl m (of_filter f xs)
    where
      go : (b : Bool) → f y ≡ b → x ∈ elim b [ true ↦ y ∷ filter f xs | false ↦ filter f xs ] → (x ∈ filter f xs → (x ∈ xs) × (f x ≡ true))
          → (x ∈ (y ∷ xs)) × (f x ≡ true)
      go true e (Memᴰ.head q) h = (Memᴰ.head q, ap f q ∙ e)
      go true e (Memᴰ.tail m) h = let r = h m in (Memᴰ.tail r.0, r.1)
      go false e m h = let r = h m in (Memᴰ.tail r.0, r.1)

  pub filter_append : (f : A → Bool) (xs ys : List A) → filter f (xs ++ ys) ≡ filter f xs ++ filter f ys
  unfolding filter
  filter_append f [] ys = refl
  filter_append f (x ∷ xs) ys = go (f x) (filter_append f xs ys)
    where
      go : (b : Bool) → filter f (xs ++ ys) ≡ filter f xs ++ filter f ys
          → elim b [ true ↦ x ∷ filter f (xs ++ ys) | false ↦ filter f (xs ++ ys) ] ≡ elim b [ true ↦ x ∷ filter f xs | false ↦ filter f xs ] ++ filter f ys
      go true e = ap (λ l. x ∷ l) e
      go false e = e

  pub filter_pass : (f : A → Bool) (x : A) → f x ≡ true → filter f (x ∷ []) ≡ x ∷ []
  unfolding filter
  filter_pass f x e = rw (e, filter)

  pub filter_stop : (f : A → Bool) (x : A) → f x ≡ false → filter f (x ∷ []) ≡ []
  unfolding filter
  filter_stop f x e = rw (e, filter)

  -- ---- places

  pub at_place : (xs : List A) (d : A) (i : ℕ) → i < length xs → get_or xs i d ∈ xs
  at_place [] d i l = absurd (not-suc-le-zero l)
  at_place (x ∷ xs) d zero l = Memᴰ.head refl
  at_place (x ∷ xs) d (suc i) l = Memᴰ.tail (at_place xs d i (le_of_suc-le-suc l))

  pub behind : (xs : List A) (d : A) (n i : ℕ) → n ≤ i → i < length xs → get_or xs i d ∈ drop n xs
  behind xs d zero i h l = at_place xs d i l
  behind [] d (suc n) i h l = absurd (not-suc-le-zero l)
  behind (x ∷ xs) d (suc n) zero h l = absurd (not-suc-le-zero h)
  behind (x ∷ xs) d (suc n) (suc i) h l = behind xs d n i (le_of_suc-le-suc h) (le_of_suc-le-suc l)

  pub of_drop : {x : A} (n : ℕ) (xs : List A) → x ∈ drop n xs → x ∈ xs
  of_drop zero xs m = m
  of_drop (suc n) [] m = elim m [ ]
  of_drop (suc n) (x ∷ xs) m = Memᴰ.tail (of_drop n xs m)

module _ {A B : Type 0} where
  pub in_concat_map : {x : A} {y : B} (f : A → List B) (xs : List A) → x ∈ xs → y ∈ f x → y ∈ concat_map f xs
  unfolding concat_map
  in_concat_map f [] n m = elim n [ ]
  in_concat_map {x} {y} f (z ∷ xs) (Memᴰ.head q) m = Memᴰ.append_left (concat_map f xs) (rw q at m)
  in_concat_map f (z ∷ xs) (Memᴰ.tail n) m = Memᴰ.append_right (f z) (in_concat_map f xs n m)

  pub of_concat_map : {y : B} (f : A → List B) (xs : List A) → y ∈ concat_map f xs → (x : A) × (x ∈ xs) × (y ∈ f x)
  unfolding concat_map
  of_concat_map f [] m = elim m [ ]
  of_concat_map f (x ∷ xs) m =
      ⊎_elim (λ m. (x, Memᴰ.head refl, m)) (λ m. let r = of_concat_map f xs m in (r.0, Memᴰ.tail r.1, r.2)) (Memᴰ.append_cases (f x) m)

  -- ---- functions that agree on the members

  pub map_same : (f g : A → B) (xs : List A) → ((x : A) → x ∈ xs → f x ≡ g x) → map f xs ≡ map g xs
  map_same f g [] h = refl
  map_same f g (x ∷ xs) h = rw (h x (Memᴰ.head refl), map_same f g xs (λ y m. h y (Memᴰ.tail m)))

  pub concat_map_same : (f g : A → List B) (xs : List A) → ((x : A) → x ∈ xs → f x ≡ g x) → concat_map f xs ≡ concat_map g xs
  unfolding concat_map
  concat_map_same f g [] h = refl
  concat_map_same f g (x ∷ xs) h = rw (h x (Memᴰ.head refl), concat_map_same f g xs (λ y m. h y (Memᴰ.tail m)))

  pub map_place : (f : A → B) (xs : List A) (d : A) (e : B) (i : ℕ) → i < length xs → get_or (map f xs) i e ≡ f (get_or xs i d)
  map_place f [] d e i l = absurd (not-suc-le-zero l)
  map_place f (x ∷ xs) d e zero l = refl
  map_place f (x ∷ xs) d e (suc i) l = map_place f xs d e i (le_of_suc-le-suc l)

-- those of a filtered list that pass another test
pub filter_both : {A : Type 0} (f g : A → Bool) (xs : List A) → filter f (filter g xs) ≡ filter (λ (x : A). g x && f x) xs
unfolding filter
filter_both f g [] = refl
filter_both {A} f g (x ∷ xs) = go (g x) (filter_both f g xs)
  where
    here : (b : Bool) (ys zs : List A) → ys ≡ zs → ◌≡◌ {A = List A} (elim b [ true ↦ x ∷ ys | false ↦ ys ]) (elim b [ true ↦ x ∷ zs | false ↦ zs ])
    here true ys zs e = rw e
    here false ys zs e = e

    go : (b : Bool) → filter f (filter g xs) ≡ filter (λ (x : A). g x && f x) xs
        → filter f (elim b [ true ↦ x ∷ filter g xs | false ↦ filter g xs ])
        ≡ elim (b && f x) [ true ↦ x ∷ filter (λ (x : A). g x && f x) xs | false ↦ filter (λ (x : A). g x && f x) xs ]
    go true e = here (f x) _ _ e
    go false e = e

-- ---- a property of all members

module _ {A : Type 0} (P : A → Type 0) where
  pub all_in : {x : A} (xs : List A) → All P xs → x ∈ xs → P x
  all_in [] h m = elim m [ ]
  all_in (y ∷ xs) h (Memᴰ.head q) = rw q h.0
  all_in (y ∷ xs) h (Memᴰ.tail m) = all_in xs h.1 m

  pub all_list_if : (b : Bool) (xs : List A) → (b ≡ true → All P xs) → All P (list_if b xs)
  unfolding list_if
  all_list_if true xs h = h refl
  all_list_if false xs h = tt

  pub all_map : {B : Type 0} (f : B → A) (xs : List B) → ((x : B) → x ∈ xs → P (f x)) → All P (map f xs)
  all_map f [] h = tt
  all_map f (x ∷ xs) h = (h x (Memᴰ.head refl), all_map f xs (λ y m. h y (Memᴰ.tail m)))

  pub all_concat_map : {B : Type 0} (f : B → List A) (xs : List B) → ((x : B) → x ∈ xs → All P (f x)) → All P (concat_map f xs)
  unfolding concat_map
  all_concat_map f [] h = tt
  all_concat_map f (x ∷ xs) h = all_append P (f x) (concat_map f xs) (h x (Memᴰ.head refl)) (all_concat_map f xs (λ y m. h y (Memᴰ.tail m)))

-- ---- the numbers from i on

pub up_to_place : (i n m : ℕ) → m < n → get_or (up_to i n) m 0 ≡ i + m
unfolding up_to
up_to_place i zero m l = absurd (not-suc-le-zero l)
up_to_place i (suc n) zero l = sym (add-zero i)
up_to_place i (suc n) (suc m) l = up_to_place (suc i) n m (le_of_suc-le-suc l) ∙ (suc-add i m ∙ sym (add-suc i m))

pub in_up_to : (i n m : ℕ) → m < n → (i + m) ∈ up_to i n
in_up_to i n m l = rw (up_to_place i n m l) at (at_place (up_to i n) 0 m (rw (length_up_to i n) l))

pub of_up_to : (i n : ℕ) {m : ℕ} → m ∈ up_to i n → m < i + n
unfolding up_to
of_up_to i zero m = elim m [ ]
of_up_to i (suc n) (Memᴰ.head q) = rw q (omega arith)
of_up_to i (suc n) (Memᴰ.tail m) = rw (add-suc, ← suc-add) (of_up_to (suc i) n m)

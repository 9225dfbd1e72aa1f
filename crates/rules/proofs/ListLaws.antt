-- Laws of the lists of specs/Lists.antt that say nothing of catalogues: what holds of every element, lists grown by one, folds, sums.
use mathlib.Core.Path.{◌≡◌, refl, ◌∙◌, ap}
use mathlib.Core.Bool.{Bool, true, false, not, ◌||◌, cond}
use mathlib.Core.List.{List, [], ◌∷◌, ◌++◌, map, append_assoc, Memᴰ}
use Prim.Native.Nat.{ℕ, zero, suc, ◌+◌, ◌*◌, ◌<◌, ◌≤◌, zero-le}
use native.Mathlib.Nat.{le_refl, mul-le-mul_right, add-zero, zero-add, add-suc, suc-add}
use native.Mathlib.Numerals.{add-one}
use native.Mathlib.Omega.{arith}
use lib.Dec.{eqb, ltb}
use lib.ListN.{length, get_or, set, length-append, length-set, get_or-append}
use lib.Seq.{get_or-append_seam, get_or-set_same, get_or-set_other}
use borrow.Author.Tests.{eqb-true, eqb-false, ne_eqb, ltb-true, ltb-false}
use Rattle.rules.specs.Lists.{filter, any, count, snoc, concat_map, fold, up_to, sum, when, unless}

-- ---- what holds of every element

abbrev pub All : {A : Type 0} → (A → Type 0) → List A → Type 0
All P [] = Unit {0}
All P (x ∷ xs) = P x × All P xs

module _ {A : Type 0} where
  pub all_append : (P : A → Type 0) (xs ys : List A) → All P xs → All P ys → All P (xs ++ ys)
  all_append P [] ys p q = q
  all_append P (x ∷ xs) ys p q = (p.0, all_append P xs ys p.1 q)

  pub all_snoc : (P : A → Type 0) (xs : List A) (x : A) → All P xs → P x → All P (snoc xs x)
  unfolding snoc
  all_snoc P xs x p q = all_append P xs (x ∷ []) p (q, tt)

  pub all_every : (P : A → Type 0) → ((x : A) → P x) → (xs : List A) → All P xs
  all_every P f [] = tt
  all_every P f (x ∷ xs) = (f x, all_every P f xs)

  pub all_weaken : (P Q : A → Type 0) → ((x : A) → P x → Q x) → (xs : List A) → All P xs → All Q xs
  all_weaken P Q f [] p = tt
  all_weaken P Q f (x ∷ xs) p = (f x p.0, all_weaken P Q f xs p.1)

  pub filter_all : (P : A → Type 0) (f : A → Bool) (xs : List A) → All P xs → All P (filter f xs)
  unfolding filter
  filter_all P f [] p = tt
  filter_all P f (x ∷ xs) p = go (f x) (filter_all P f xs p.1)
    where
      go : (b : Bool) → All P (filter f xs) → All P (elim b [ true ↦ x ∷ filter f xs | false ↦ filter f xs ])
      go true q = (p.0, q)
      go false q = q

  -- those that pass and those that do not
  pub length_filters : (f : A → Bool) (xs : List A) → length (filter f xs) + length (filter (λ x. not (f x)) xs) ≡ length xs
  unfolding filter
  length_filters f [] = omega arith
  length_filters f (x ∷ xs) = go (f x) (length_filters f xs)
    where
      go : (b : Bool) → length (filter f xs) + length (filter (λ x. not (f x)) xs) ≡ length xs
          → length {A = A} (elim b [ true ↦ x ∷ filter f xs | false ↦ filter f xs ])
          + length {A = A} (elim (not b) [ true ↦ x ∷ filter (λ x. not (f x)) xs | false ↦ filter (λ x. not (f x)) xs ]) ≡ length (x ∷ xs)
      go true h = omega arith
      go false h = omega arith

module _ {A B : Type 0} where
  pub all_map : (P : B → Type 0) (f : A → B) (xs : List A) → All (λ x. P (f x)) xs → All P (map f xs)
  all_map P f [] p = tt
  all_map P f (x ∷ xs) p = (p.0, all_map P f xs p.1)

  pub all_concat_map : (P : B → Type 0) (f : A → List B) (xs : List A) → All (λ x. All P (f x)) xs → All P (concat_map f xs)
  unfolding concat_map
  all_concat_map P f [] p = tt
  all_concat_map P f (x ∷ xs) p = all_append P (f x) (concat_map f xs) p.0 (all_concat_map P f xs p.1)

  pub every_concat_map : (P : B → Type 0) (f : A → List B) → ((x : A) → All P (f x)) → (xs : List A) → All P (concat_map f xs)
  every_concat_map P f h xs = all_concat_map P f xs (all_every _ h xs)

  pub concat_map_append : (f : A → List B) (xs ys : List A) → concat_map f (xs ++ ys) ≡ concat_map f xs ++ concat_map f ys
  unfolding concat_map
  concat_map_append f [] ys = refl
  concat_map_append f (x ∷ xs) ys = rw (concat_map_append f xs ys, append_assoc)

pub no_element : {A : Type 0} (xs : List A) → length xs ≡ 0 → xs ≡ []
no_element [] e = refl
no_element (x ∷ xs) e = let no_such : ⊥ = omega arith in absurd no_such

pub map_snoc : {A B : Type 0} (f : A → B) (xs : List A) (x : A) → map f (snoc xs x) ≡ snoc (map f xs) (f x)
unfolding snoc
map_snoc f [] x = refl
map_snoc f (y ∷ xs) x = ap (λ (r : List _). f y ∷ r) (map_snoc f xs x)

-- ---- the numbers below a number

up_to_all : (i n : ℕ) → All (λ j. (i ≤ j) × (j < i + n)) (up_to i n)
unfolding up_to
up_to_all i zero = tt
up_to_all i (suc n) = (omega arith, all_weaken _ _ (λ j h. omega arith) (up_to (suc i) n) (up_to_all (suc i) n))

pub up_to_below : (n : ℕ) → All (λ j. j < n) (up_to 0 n)
up_to_below n = all_weaken (λ j. (0 ≤ j) × (j < 0 + n)) (λ j. j < n) (λ j h. omega arith) (up_to 0 n) (up_to_all 0 n)

up_to_has : (i n j : ℕ) → i ≤ j → j < i + n → Memᴰ j (up_to i n)
unfolding up_to
up_to_has i zero j h k = let no_such : ⊥ = omega arith in absurd no_such
up_to_has i (suc n) j h k = go (eqb j i) refl (up_to_has (suc i) n j)
  where
    go : (b : Bool) → eqb j i ≡ b → (suc i ≤ j → j < suc i + n → Memᴰ j (up_to (suc i) n)) → Memᴰ j (i ∷ up_to (suc i) n)
    go true e f = Memᴰ.head (eqb-true j i e)
    go false e f = let apart = eqb-false j i e in Memᴰ.tail (f (omega arith) (omega arith))

pub up_to_member : (n j : ℕ) → j < n → Memᴰ j (up_to 0 n)
up_to_member n j h = up_to_has 0 n j zero-le (omega arith)

pub length_up_to : (i n : ℕ) → length (up_to i n) ≡ n
unfolding up_to
length_up_to i zero = refl
length_up_to i (suc n) = ap suc (length_up_to (suc i) n)

pub up_to_end : (i n : ℕ) → up_to i (suc n) ≡ up_to i n ++ ((i + n) ∷ [])
unfolding up_to
up_to_end i zero = rw (add-zero i)
up_to_end i (suc n) = ap (λ l. i ∷ l) (rw (add-suc i n, ← (suc-add i n)) (up_to_end (suc i) n))

pub up_to_last : (n : ℕ) → up_to 0 (n + 1) ≡ up_to 0 n ++ (n ∷ [])
up_to_last n = rw add-one (up_to_end 0 n ∙ rw (zero-add n))

-- ---- counts

module _ {A : Type 0} where
  pub count_none : (f : A → Bool) (xs : List A) → All (λ x. f x ≡ false) xs → count f xs ≡ 0
  unfolding count
  count_none f [] p = refl
  count_none f (x ∷ xs) p = rw p.0 (omega (arith, count_none f xs p.1))

pub count_map : {A B : Type 0} (f : B → Bool) (g : A → B) (xs : List A) → count f (map g xs) ≡ count (λ x. f (g x)) xs
unfolding count
count_map f g [] = refl
count_map f g (x ∷ xs) = omega (arith, count_map f g xs)

-- a number stands once among those from i on
pub up_to_once : (p i n : ℕ) → count (λ j. eqb j p) (up_to i n) ≤ 1
unfolding up_to count
up_to_once p i zero = zero-le
up_to_once p i (suc n) = go (eqb i p) refl (up_to_once p (suc i) n)
  where
    later : i ≡ p → All (λ j. eqb j p ≡ false) (up_to (suc i) n)
    later e = all_weaken _ _ (λ j h. ne_eqb j p (λ q. omega arith)) (up_to (suc i) n) (up_to_all (suc i) n)

    go : (b : Bool) → eqb i p ≡ b → count (λ j. eqb j p) (up_to (suc i) n) ≤ 1 → cond b 1 0 + count (λ j. eqb j p) (up_to (suc i) n) ≤ 1
    go true e h = omega (arith, count_none (λ j. eqb j p) (up_to (suc i) n) (later (eqb-true i p e)))
    go false e h = omega arith

-- ---- one element more, or one replaced; `P` may name the place

module _ {A : Type 0} (P : ℕ → A → Type 0) (d : A) where
  abbrev pub Each : List A → Type 0
  Each xs = (i : ℕ) → i < length xs → P i (get_or xs i d)

  pub each_snoc : (xs : List A) (x : A) → Each xs → P (length xs) x → Each (snoc xs x)
  unfolding snoc
  each_snoc xs x h p i b = go (ltb i (length xs)) refl
    where
      go : (l : Bool) → ltb i (length xs) ≡ l → P i (get_or (xs ++ (x ∷ [])) i d)
      go true e = let k = ltb-true i (length xs) e in rw (get_or-append xs (x ∷ []) d i k) (h i k)
      go false e =
          let at_end : i ≡ length xs = omega (arith, ltb-false i (length xs) e, length-append xs (x ∷ [])) in
          rw (at_end, get_or-append_seam xs x [] d) p

  pub each_set : (xs : List A) (j : ℕ) (x : A) → Each xs → P j x → Each (set xs j x)
  each_set xs j x h p i b = go (eqb i j) refl
    where
      in_list : i < length xs
      in_list = omega (arith, length-set xs j x)

      go : (l : Bool) → eqb i j ≡ l → P i (get_or (set xs j x) i d)
      go true e = let same : i ≡ j = eqb-true i j e in rw (same, get_or-set_same xs j x d (rw same at in_list)) p
      go false e = rw (get_or-set_other xs j i x d (eqb-false i j e)) (h i in_list)

module _ {A : Type 0} where
  pub length_snoc : (xs : List A) (x : A) → length (snoc xs x) ≡ suc (length xs)
  unfolding snoc
  length_snoc xs x = omega (arith, length-append xs (x ∷ []))

  pub any_snoc : (f : A → Bool) (xs : List A) (y : A) → any f (snoc xs y) ≡ (any f xs || f y)
  unfolding any snoc
  any_snoc f [] y = or_false (f y)
    where
      or_false : (b : Bool) → (b || false) ≡ b
      or_false true = refl
      or_false false = refl
  any_snoc f (x ∷ xs) y = rw (any_snoc f xs y) (or_assoc (f x))
    where
      or_assoc : (b : Bool) → (b || (any f xs || f y)) ≡ ((b || any f xs) || f y)
      or_assoc true = refl
      or_assoc false = refl

-- ---- what each step keeps, the whole keeps

module _ {A : Type 0} (P : A → Type 0) where
  pub when_keeps : (b : Bool) (f : A → A) (s : A) → P s → P (f s) → P (when b f s)
  unfolding when
  when_keeps true f s p q = q
  when_keeps false f s p q = p

  pub unless_keeps : (b : Bool) (f : A → A) (s : A) → P s → (b ≡ false → P (f s)) → P (unless b f s)
  unfolding unless
  unless_keeps true f s p q = p
  unless_keeps false f s p q = q refl

pub fold_keeps : {A B : Type 0} (P : B → Type 0) (Q : A → Type 0) (f : A → B → B) → ((x : A) (s : B) → Q x → P s → P (f x s))
    → (xs : List A) → All Q xs → (s : B) → P s → P (fold f xs s)
unfolding fold
fold_keeps P Q f h [] q s p = p
fold_keeps P Q f h (x ∷ xs) q s p = fold_keeps P Q f h xs q.1 (f x s) (h x s q.0 p)

pub fold_every : {A B : Type 0} (P : B → Type 0) (f : A → B → B) → ((x : A) (s : B) → P s → P (f x s)) → (xs : List A) (s : B) → P s → P (fold f xs s)
fold_every P f h xs s p = fold_keeps P (λ _. Unit {0}) f (λ x s _. h x s) xs (all_every _ (λ _. tt) xs) s p

-- ---- sums

pub sum_append : {A : Type 0} (f : A → ℕ) (xs ys : List A) → sum (map f (xs ++ ys)) ≡ sum (map f xs) + sum (map f ys)
unfolding sum
sum_append f [] ys = omega arith
sum_append f (x ∷ xs) ys = omega (arith, sum_append f xs ys)

pub sum_map : {A B : Type 0} (f : B → ℕ) (g : A → B) (h : A → ℕ) → ((x : A) → f (g x) ≡ h x)
    → (xs : List A) → sum (map f (map g xs)) ≡ sum (map h xs)
unfolding sum
sum_map f g h e [] = refl
sum_map f g h e (x ∷ xs) = omega (arith, e x, sum_map f g h e xs)

module _ {A : Type 0} (f g : A → ℕ) where
  pub sum_both : (xs : List A) → sum (map (λ x. f x + g x) xs) ≡ sum (map f xs) + sum (map g xs)
  unfolding sum
  sum_both [] = refl
  sum_both (x ∷ xs) = omega (arith, sum_both xs)

  pub sum_le : ((x : A) → f x ≤ g x) → (xs : List A) → sum (map f xs) ≤ sum (map g xs)
  unfolding sum
  sum_le h [] = le_refl 0
  sum_le h (x ∷ xs) = omega (arith, h x, sum_le h xs)

  -- and less by k, if one of the numbers is
  pub sum_falls : ((x : A) → f x ≤ g x) → (y : A) (k : ℕ) → f y + k ≤ g y → (xs : List A) → Memᴰ y xs → sum (map f xs) + k ≤ sum (map g xs)
  unfolding sum
  sum_falls h y k e [] m = elim m [ ]
  sum_falls h y k e (x ∷ xs) (Memᴰ.head q) = let here : f x + k ≤ g x = rw q at e in omega (arith, sum_le h xs)
  sum_falls h y k e (x ∷ xs) (Memᴰ.tail m) = omega (arith, h x, sum_falls h y k e xs m)

pub sum_constant : {A : Type 0} (k : ℕ) (xs : List A) → sum (map (λ _. k) xs) ≡ length xs * k
unfolding sum
sum_constant k [] = omega arith
sum_constant k (x ∷ xs) = omega (arith, sum_constant k xs)

sum_passing : {A : Type 0} (f : A → Bool) (k : ℕ) (xs : List A) → sum (map (λ x. cond (f x) k 0) xs) ≡ count f xs * k
unfolding sum count
sum_passing f k [] = omega arith
sum_passing f k (x ∷ xs) = omega (arith, one (f x), sum_passing f k xs)
  where
    one : (b : Bool) → cond b k 0 ≡ cond b 1 0 * k
    one true = omega arith
    one false = omega arith

-- Elements each of which belongs to at most one of `os`: what belongs to each, summed over all `os`, is no more than the whole.
module _ {A B : Type 0} (belongs : B → A → Bool) (w : A → ℕ) where
  abbrev owned : List A → B → ℕ
  owned xs o = sum (map w (filter (belongs o) xs))

  owned_more : (x : A) (xs : List A) (o : B) → owned (x ∷ xs) o ≤ cond (belongs o x) (w x) 0 + owned xs o
  unfolding filter
  owned_more x xs o = go (belongs o x)
    where
      go : (b : Bool) → sum (map w (elim b [ true ↦ x ∷ filter (belongs o) xs | false ↦ filter (belongs o) xs ])) ≤ cond b (w x) 0 + owned xs o
      go true = unfold sum in omega arith
      go false = omega arith

  pub sum_owned : (os : List B) → ((x : A) → count (λ o. belongs o x) os ≤ 1) → (xs : List A) → sum (map (owned xs) os) ≤ sum (map w xs)
  unfolding filter sum
  sum_owned os once [] = omega (arith, sum_constant 0 os)
  sum_owned os once (x ∷ xs) =
      let share : B → ℕ = λ o. cond (belongs o x) (w x) 0 in
      let a = sum_le (owned (x ∷ xs)) (λ o. share o + owned xs o) (owned_more x xs) os in
      let b = sum_both share (owned xs) os in
      let m = mul-le-mul_right (w x) (once x) in
      omega (arith, sum_passing (λ o. belongs o x) (w x) os, sum_owned os once xs)

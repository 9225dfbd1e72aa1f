-- A property of each element of a list (`Each`), and a relation of each element to every later one (`Pairwise`): what appending, mapping,
-- filtering and looking up keep. And a step that is taken only if a test passes, by cases of the test.
use mathlib.Core.Path.{◌≡◌, refl}
use mathlib.Core.Bool.{Bool, true, false, true≢false}
use mathlib.Core.List.{List, [], ◌∷◌, ◌++◌, map, Memᴰ}
use Prim.Native.Nat.{ℕ, zero, suc, ◌<◌}
use native.Mathlib.Nat.{le_of_suc-le-suc, not-suc-le-zero}
use lib.ListN.{length, get_or, drop}
use Rattle.rules.proofs.Bools.{by_cases}
use Rattle.rules.specs.Lists.{filter, any, snoc, list_if, when, unless}

pub data Each {A : Type 0} (P : A → Type 0) : List A → Type 0 where
  nil : Each P []
  cons : {x : A} {xs : List A} → P x → Each P xs → Each P (x ∷ xs)

pub data Pairwise {A : Type 0} (R : A → A → Type 0) : List A → Type 0 where
  nil : Pairwise R []
  cons : {x : A} {xs : List A} → Each (R x) xs → Pairwise R xs → Pairwise R (x ∷ xs)

-- ---- each

module _ {A : Type 0} {P : A → Type 0} where
  pub each_append : {xs ys : List A} → Each P xs → Each P ys → Each P (xs ++ ys)
  each_append Each.nil q = q
  each_append (Each.cons p ps) q = Each.cons p (each_append ps q)

  pub each_left : (xs ys : List A) → Each P (xs ++ ys) → Each P xs
  each_left [] ys p = Each.nil
  each_left (x ∷ xs) ys (Each.cons p ps) = Each.cons p (each_left xs ys ps)

  pub each_right : (xs : List A) {ys : List A} → Each P (xs ++ ys) → Each P ys
  each_right [] p = p
  each_right (x ∷ xs) (Each.cons p ps) = each_right xs ps

  pub each_snoc : {xs : List A} {x : A} → Each P xs → P x → Each P (snoc xs x)
  unfolding snoc
  each_snoc ps p = each_append ps (Each.cons p Each.nil)

  pub each_of : (xs : List A) → ((x : A) → P x) → Each P xs
  each_of [] h = Each.nil
  each_of (x ∷ xs) h = Each.cons (h x) (each_of xs h)

  pub each_imp : {Q : A → Type 0} → ((x : A) → P x → Q x) → {xs : List A} → Each P xs → Each Q xs
  each_imp h Each.nil = Each.nil
  each_imp {Q} h (Each.cons p ps) = Each.cons (h _ p) (each_imp {Q = Q} h ps)

  pub each_filter : (f : A → Bool) {xs : List A} → Each P xs → Each P (filter f xs)
  unfolding filter
  each_filter f Each.nil = Each.nil
  each_filter f (Each.cons {x} p ps) = by_cases (f x) (λ q. rw (q, filter) (Each.cons p (each_filter f ps))) (λ q. rw (q, filter) (each_filter f ps))

  pub each_drop : (n : ℕ) {xs : List A} → Each P xs → Each P (drop n xs)
  each_drop zero ps = ps
  each_drop (suc n) Each.nil = Each.nil
  each_drop (suc n) (Each.cons p ps) = each_drop n ps

  pub each_list_if : (b : Bool) (xs : List A) → (b ≡ true → Each P xs) → Each P (list_if b xs)
  unfolding list_if
  each_list_if true xs h = h refl
  each_list_if false xs h = Each.nil

  pub each_at : {xs : List A} → Each P xs → (i : ℕ) (d : A) → i < length xs → P (get_or xs i d)
  each_at Each.nil i d l = absurd (not-suc-le-zero l)
  each_at (Each.cons p ps) zero d l = p
  each_at (Each.cons p ps) (suc i) d l = each_at ps i d (le_of_suc-le-suc l)

  pub each_out : {xs : List A} → Each P xs → {x : A} → Memᴰ x xs → P x
  each_out Each.nil m = elim m [ ]
  each_out (Each.cons p ps) (Memᴰ.head e) = rw e p
  each_out (Each.cons p ps) (Memᴰ.tail m) = each_out ps m

  pub each_in : (xs : List A) → ((x : A) → Memᴰ x xs → P x) → Each P xs
  each_in [] h = Each.nil
  each_in (x ∷ xs) h = Each.cons (h x (Memᴰ.head refl)) (each_in xs (λ y m. h y (Memᴰ.tail m)))

pub each_map : {A B : Type 0} {P : B → Type 0} (f : A → B) (xs : List A) → Each (λ x. P (f x)) xs → Each P (map f xs)
each_map f [] Each.nil = Each.nil
each_map {P} f (x ∷ xs) (Each.cons p ps) = Each.cons p (each_map {P = P} f xs ps)

pub each_map_of : {A B : Type 0} {P : B → Type 0} (f : A → B) (xs : List A) → ((x : A) → P (f x)) → Each P (map f xs)
each_map_of f xs h = each_map f xs (each_of xs h)

-- what a filter keeps passes its test
pub each_passes : {A : Type 0} (f : A → Bool) (xs : List A) → Each (λ x. f x ≡ true) (filter f xs)
unfolding filter
each_passes f [] = Each.nil
each_passes f (x ∷ xs) = by_cases (f x) (λ q. rw (q, filter) (Each.cons q (each_passes f xs))) (λ q. rw (q, filter) (each_passes f xs))

pub each_fails : {A : Type 0} (f : A → Bool) (xs : List A) → any f xs ≡ false → Each (λ x. f x ≡ false) xs
unfolding any
each_fails f [] e = Each.nil
each_fails f (x ∷ xs) e = by_cases (f x) (λ q. absurd (true≢false (rw q at e))) (λ q. Each.cons q (each_fails f xs (rw q at e)))

-- ---- each with each later one

module _ {A : Type 0} {R : A → A → Type 0} where
  pub pairwise_snoc : {xs : List A} {y : A} → Pairwise R xs → Each (λ x. R x y) xs → Pairwise R (snoc xs y)
  unfolding snoc
  pairwise_snoc Pairwise.nil Each.nil = Pairwise.cons Each.nil Pairwise.nil
  pairwise_snoc (Pairwise.cons q qs) (Each.cons p ps) = Pairwise.cons (each_append q (Each.cons p Each.nil)) (pairwise_snoc qs ps)

  pub pairwise_filter : (f : A → Bool) {xs : List A} → Pairwise R xs → Pairwise R (filter f xs)
  unfolding filter
  pairwise_filter f Pairwise.nil = Pairwise.nil
  pairwise_filter f (Pairwise.cons {x} q qs) =
      by_cases (f x) (λ e. rw (e, filter) (Pairwise.cons (each_filter f q) (pairwise_filter f qs))) (λ e. rw (e, filter) (pairwise_filter f qs))

  pub pairwise_at : {xs : List A} → Pairwise R xs → (i j : ℕ) (d : A) → i < j → j < length xs → R (get_or xs i d) (get_or xs j d)
  pairwise_at Pairwise.nil i j d h l = absurd (not-suc-le-zero l)
  pairwise_at (Pairwise.cons q qs) i zero d h l = absurd (not-suc-le-zero h)
  pairwise_at (Pairwise.cons q qs) zero (suc j) d h l = each_at q j d (le_of_suc-le-suc l)
  pairwise_at (Pairwise.cons q qs) (suc i) (suc j) d h l = pairwise_at qs i j d (le_of_suc-le-suc h) (le_of_suc-le-suc l)

-- ---- by cases of a test

module _ {A : Type 0} (P : A → Type 0) where
  pub when_cases : (b : Bool) (f : A → A) (s : A) → P s → (b ≡ true → P (f s)) → P (when b f s)
  unfolding when
  when_cases true f s p q = q refl
  when_cases false f s p q = p

  pub unless_cases : (b : Bool) (f : A → A) (s : A) → (b ≡ true → P s) → (b ≡ false → P (f s)) → P (unless b f s)
  unfolding unless
  unless_cases true f s p q = p refl
  unless_cases false f s p q = q refl

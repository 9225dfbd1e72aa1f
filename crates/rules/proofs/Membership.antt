-- What is in a list: of `++`, `map`, `filter`, `concat_map`, `any`; lists without repeats; and what a `fold` keeps.
use mathlib.Core.Path.{◌≡◌, refl, sym, ◌∙◌, ap}
use mathlib.Core.Logic.{◌⊎◌, inl, inr, ⊎_elim}
use mathlib.Core.Bool.{Bool, true, false, not, ◌||◌, cond, true≢false, false≢true}
use mathlib.Core.List.Memᴰ
use mathlib.Core.List.{List, [], ◌∷◌, ◌++◌, map}
use Prim.Native.Nat.{ℕ}
use lib.Dec.{eqb}
use borrow.Author.Tests.{eqb-true, eq-eqb}
use Rattle.rules.specs.Lists.{filter, any, elem, snoc, concat_map, fold, when, unless, distinct}
use Rattle.rules.specs.Called.{◌∈◌}

-- what is in one list is in the other
abbrev pub ◌⊆◌ : {A : Type 0} → List A → List A → Type 0
◌⊆◌ {A} xs ys = (x : A) → x ∈ xs → x ∈ ys

infix 4 ◌⊆◌
module _ {A : Type 0} where
  pub ⊆-refl : {xs : List A} → xs ⊆ xs
  ⊆-refl x m = m

  pub ⊆-snoc : (xs : List A) (x : A) → xs ⊆ snoc xs x
  unfolding snoc
  ⊆-snoc xs x y m = Memᴰ.append_left (x ∷ []) m

  pub in_left : {x : A} {xs : List A} (ys : List A) → x ∈ xs → x ∈ (xs ++ ys)
  in_left ys m = Memᴰ.append_left ys m

  pub in_right : {x : A} (xs : List A) {ys : List A} → x ∈ ys → x ∈ (xs ++ ys)
  in_right xs m = Memᴰ.append_right xs m

  pub at_end : (xs : List A) (x : A) → x ∈ (xs ++ (x ∷ []))
  at_end xs x = in_right xs (Memᴰ.head refl)

  pub in_either : {x : A} (xs : List A) {ys : List A} → x ∈ (xs ++ ys) → (x ∈ xs) ⊎ (x ∈ ys)
  in_either xs m = Memᴰ.append_cases xs m

  pub before_or_end : {x y : A} (xs : List A) → x ∈ (xs ++ (y ∷ [])) → (x ∈ xs) ⊎ (x ≡ y)
  before_or_end xs m = ⊎_elim inl (λ n. inr (Memᴰ.eq_of_singleton n)) (in_either xs m)

  -- ---- what passes a test

  pub filter_in : (f : A → Bool) {x : A} (xs : List A) → x ∈ xs → f x ≡ true → x ∈ filter f xs
  unfolding filter
  filter_in f [] m e = absurd (Memᴰ.not-nil m)
  filter_in f {x} (y ∷ ys) m e = go (f y) refl (Memᴰ.cases_cons m) (λ n. filter_in f ys n e)
    where
      go : (b : Bool) → f y ≡ b → (x ≡ y) ⊎ (x ∈ ys) → (x ∈ ys → x ∈ filter f ys) → x ∈ (elim b [ true ↦ y ∷ filter f ys | false ↦ filter f ys ])
      go true q (inl p) h = Memᴰ.head p
      go true q (inr n) h = Memᴰ.tail (h n)
      go false q (inl p) h = absurd (true≢false (sym e ∙ (ap f p ∙ q)))
      go false q (inr n) h = h n

  pub filter_out : (f : A → Bool) {x : A} (xs : List A) → x ∈ filter f xs → (x ∈ xs) × (f x ≡ true)
  unfolding filter
  filter_out f [] m = absurd (Memᴰ.not-nil m)
  filter_out f {x} (y ∷ ys) m = go (f y) refl m (filter_out f ys)
    where
      later : (x ∈ ys) × (f x ≡ true) → (x ∈ (y ∷ ys)) × (f x ≡ true)
      later p = (Memᴰ.tail p.0, p.1)

      go : (b : Bool) → f y ≡ b → x ∈ (elim b [ true ↦ y ∷ filter f ys | false ↦ filter f ys ])
          → (x ∈ filter f ys → (x ∈ ys) × (f x ≡ true)) → (x ∈ (y ∷ ys)) × (f x ≡ true)
      go true q m h = ⊎_elim (λ (p : x ≡ y). (Memᴰ.head p, ap f p ∙ q)) (λ n. later (h n)) (Memᴰ.cases_cons m)
      go false q m h = later (h m)

  pub filter_within : (f : A → Bool) (xs : List A) → filter f xs ⊆ xs
  filter_within f xs x m = (filter_out f xs m).0

  -- what a test does not take, its opposite does
  pub filter_either : (f : A → Bool) {x : A} (xs : List A) → x ∈ xs → (x ∈ filter f xs) ⊎ (x ∈ filter (λ y. not (f y)) xs)
  filter_either f {x} xs m = go (f x) refl
    where
      go : (b : Bool) → f x ≡ b → (x ∈ filter f xs) ⊎ (x ∈ filter (λ y. not (f y)) xs)
      go true e = inl (filter_in f xs m e)
      go false e = inr (filter_in (λ y. not (f y)) xs m (ap not e))

  pub any_in : (f : A → Bool) {x : A} (xs : List A) → x ∈ xs → f x ≡ true → any f xs ≡ true
  unfolding any
  any_in f [] m e = absurd (Memᴰ.not-nil m)
  any_in f {x} (y ∷ ys) m e = go (f y) refl (Memᴰ.cases_cons m) (λ n. any_in f ys n e)
    where
      go : (b : Bool) → f y ≡ b → (x ≡ y) ⊎ (x ∈ ys) → (x ∈ ys → any f ys ≡ true) → (b || any f ys) ≡ true
      go true q c h = refl
      go false q (inl p) h = absurd (true≢false (sym e ∙ (ap f p ∙ q)))
      go false q (inr n) h = h n

  pub any_out : (f : A → Bool) (xs : List A) → any f xs ≡ true → (x : A) × (x ∈ xs) × (f x ≡ true)
  unfolding any
  any_out f [] e = absurd (false≢true e)
  any_out f (y ∷ ys) e = go (f y) refl e (any_out f ys)
    where
      go : (b : Bool) → f y ≡ b → (b || any f ys) ≡ true → (any f ys ≡ true → (x : A) × (x ∈ ys) × (f x ≡ true)) → (x : A) × (x ∈ (y ∷ ys)) × (f x ≡ true)
      go true q e h = (y, Memᴰ.head refl, q)
      go false q e h = let p = h e in (p.0, Memᴰ.tail p.1, p.2)

-- `elem`, the test, is `∈`
pub elem_in : {n : ℕ} (ns : List ℕ) → n ∈ ns → elem n ns ≡ true
elem_in {n} ns m = any_in (eqb n) ns m (eq-eqb n n refl)

pub elem_out : (n : ℕ) (ns : List ℕ) → elem n ns ≡ true → n ∈ ns
elem_out n ns e = let p = any_out (eqb n) ns e in rw (eqb-true n p.0 p.2) p.1

pub not_elem : (n : ℕ) (ns : List ℕ) → elem n ns ≡ false → n ∈ ns → ⊥
not_elem n ns e m = true≢false (sym (elem_in ns m) ∙ e)

pub elem_not : (n : ℕ) (ns : List ℕ) → (n ∈ ns → ⊥) → elem n ns ≡ false
elem_not n ns no_such = go (elem n ns) refl
  where
    go : (b : Bool) → elem n ns ≡ b → b ≡ false
    go true e = absurd (no_such (elem_out n ns e))
    go false e = refl

module _ {A B : Type 0} where
  pub map_in : (f : A → B) {x : A} {xs : List A} → x ∈ xs → f x ∈ map f xs
  map_in f m = Memᴰ.map f m

  pub map_out : (f : A → B) {y : B} (xs : List A) → y ∈ map f xs → (x : A) × (x ∈ xs) × (y ≡ f x)
  map_out f [] m = absurd (Memᴰ.not-nil m)
  map_out f {y} (x ∷ xs) m = go (Memᴰ.cases_cons m) (map_out f xs)
    where
      go : (y ≡ f x) ⊎ (y ∈ map f xs) → (y ∈ map f xs → (z : A) × (z ∈ xs) × (y ≡ f z)) → (z : A) × (z ∈ (x ∷ xs)) × (y ≡ f z)
      go (inl e) h = (x, Memᴰ.head refl, e)
      go (inr n) h = let p = h n in (p.0, Memᴰ.tail p.1, p.2)

  pub concat_map_in : (f : A → List B) {x : A} {y : B} (xs : List A) → x ∈ xs → y ∈ f x → y ∈ concat_map f xs
  unfolding concat_map
  concat_map_in f [] m k = absurd (Memᴰ.not-nil m)
  concat_map_in f {x} {y} (z ∷ zs) m k =
      ⊎_elim (λ (e : x ≡ z). in_left (concat_map f zs) (rw e at k)) (λ n. in_right (f z) (concat_map_in f zs n k)) (Memᴰ.cases_cons m)

  pub concat_map_out : (f : A → List B) {y : B} (xs : List A) → y ∈ concat_map f xs → (x : A) × (x ∈ xs) × (y ∈ f x)
  unfolding concat_map
  concat_map_out f [] m = absurd (Memᴰ.not-nil m)
  concat_map_out f {y} (z ∷ zs) m = go (in_either (f z) m) (concat_map_out f zs)
    where
      go : (y ∈ f z) ⊎ (y ∈ concat_map f zs) → (y ∈ concat_map f zs → (x : A) × (x ∈ zs) × (y ∈ f x)) → (x : A) × (x ∈ (z ∷ zs)) × (y ∈ f x)
      go (inl n) h = (z, Memᴰ.head refl, n)
      go (inr n) h = let p = h n in (p.0, Memᴰ.tail p.1, p.2)

-- the disjuncts of one requirement, by index
abbrev pub entries : ℕ → List ℕ → List (ℕ × ℕ)
entries q is = map (λ i. (q, i)) is

pub entries_out : {p i : ℕ} (q : ℕ) (is : List ℕ) → (p, i) ∈ entries q is → (p ≡ q) × (i ∈ is)
entries_out q is m =
    let x = map_out (λ (i : ℕ). (q, i)) is m in
    (ap (λ (e : ℕ × ℕ). e.0) x.2, rw (ap (λ (e : ℕ × ℕ). e.1) x.2) x.1)

-- ---- what holds of a state

module _ {S : Type 0} (P : S → Type 0) where
  -- what holds in either case
  pub when_either : (b : Bool) (f : S → S) (s : S) → (b ≡ true → P (f s)) → (b ≡ false → P s) → P (when b f s)
  unfolding when
  when_either true f s p q = p refl
  when_either false f s p q = q refl

  pub unless_either : (b : Bool) (f : S → S) (s : S) → (b ≡ true → P s) → (b ≡ false → P (f s)) → P (unless b f s)
  unfolding unless
  unless_either true f s p q = p refl
  unless_either false f s p q = q refl

  -- what is kept
  pub when_keeps : (b : Bool) (f : S → S) (s : S) → (P s → P (f s)) → P s → P (when b f s)
  when_keeps b f s h p = when_either b f s (λ e. h p) (λ e. p)

  pub unless_keeps : (b : Bool) (f : S → S) (s : S) → (P s → P (f s)) → P s → P (unless b f s)
  unless_keeps b f s h p = unless_either b f s (λ e. p) (λ e. h p)

  pub fold_keeps : {A : Type 0} (f : A → S → S) (xs : List A) → ((x : A) → x ∈ xs → (s : S) → P s → P (f x s)) → (s : S) → P s → P (fold f xs s)
  unfolding fold
  fold_keeps f [] h s p = p
  fold_keeps f (x ∷ xs) h s p = fold_keeps f xs (λ y m. h y (Memᴰ.tail m)) (f x s) (h x (Memᴰ.head refl) s p)

  -- what one step gives and every step keeps
  pub fold_gives : {A : Type 0} (f : A → S → S) {x : A} (xs : List A) → x ∈ xs → ((s : S) → P (f x s)) → ((y : A) (s : S) → P s → P (f y s))
      → (s : S) → P (fold f xs s)
  unfolding fold
  fold_gives f [] m gives keeps s = absurd (Memᴰ.not-nil m)
  fold_gives f {x} (y ∷ ys) m gives keeps s =
      ⊎_elim
      (λ (e : x ≡ y). fold_keeps f ys (λ z n. keeps z) (f y s) (rw e at (gives s)))
      (λ n. fold_gives f ys n gives keeps (f y s))
      (Memᴰ.cases_cons m)

-- where what holds depends on the elements still to come
pub fold_through : {A S : Type 0} (P : List A → S → Type 0) (f : A → S → S) → ((x : A) (xs : List A) (s : S) → P (x ∷ xs) s → P xs (f x s))
    → (xs : List A) (s : S) → P xs s → P [] (fold f xs s)
unfolding fold
fold_through P f h [] s p = p
fold_through P f h (x ∷ xs) s p = fold_through P f h xs (f x s) (h x xs s p)

-- ---- lists without repeats

pub data Once {A : Type 0} : List A → Type 0 where
  empty : Once []
  once : {x : A} {xs : List A} → (x ∈ xs → ⊥) → Once xs → Once (x ∷ xs)

pub once_append : {A : Type 0} {xs ys : List A} → Once xs → Once ys → ((x : A) → x ∈ xs → x ∈ ys → ⊥) → Once (xs ++ ys)
once_append empty q apart = q
once_append (once {x = x} {xs = xs} n p) q apart =
    once (λ m. ⊎_elim n (apart x (Memᴰ.head refl)) (in_either xs m)) (once_append p q (λ y m. apart y (Memᴰ.tail m)))

pub once_snoc : {A : Type 0} {xs : List A} {x : A} → Once xs → (x ∈ xs → ⊥) → Once (snoc xs x)
unfolding snoc
once_snoc {x} p n = once_append p (once Memᴰ.not-nil empty) (λ y m k. ⊎_elim (λ (e : y ≡ x). n (rw e at m)) Memᴰ.not-nil (Memᴰ.cases_cons k))

pub once_filter : {A : Type 0} (f : A → Bool) {xs : List A} → Once xs → Once (filter f xs)
unfolding filter
once_filter f empty = empty
once_filter {A} f (once {x = x} {xs = xs} n p) = go (f x) (once_filter f p)
  where
    go : (b : Bool) → Once (filter f xs) → Once {A = A} (elim b [ true ↦ x ∷ filter f xs | false ↦ filter f xs ])
    go true q = once (λ m. n (filter_within f xs x m)) q
    go false q = q

-- lists whose elements tell which list they are of
pub once_concat_map : {A B : Type 0} (f : A → List B) (key : B → A) → ((x : A) (y : B) → y ∈ f x → key y ≡ x) → ((x : A) → Once (f x))
    → {xs : List A} → Once xs → Once (concat_map f xs)
unfolding concat_map
once_concat_map f key keyed each empty = empty
once_concat_map f key keyed each (once {x = x} {xs = xs} n p) =
    once_append (each x) (once_concat_map f key keyed each p)
    (λ y m k. let z = concat_map_out f xs k in let e : x ≡ z.0 = sym (keyed x y m) ∙ keyed z.0 y z.2 in n (rw e z.1))

pub distinct_once : (xs : List ℕ) → Once (distinct xs)
unfolding distinct
distinct_once xs = fold_keeps Once _ xs (λ x m seen. step x seen (elem x seen) refl) [] empty
  where
    step : (x : ℕ) (seen : List ℕ) (b : Bool) → elem x seen ≡ b → Once seen → Once (cond b seen (snoc seen x))
    step x seen true e p = p
    step x seen false e p = once_snoc p (not_elem x seen e)

pub distinct_in : (xs : List ℕ) → xs ⊆ distinct xs
unfolding distinct
distinct_in xs x m = fold_gives (λ seen. x ∈ seen) _ xs m (λ seen. gives seen (elem x seen) refl) (λ y seen. keeps y seen (elem y seen)) []
  where
    gives : (seen : List ℕ) (b : Bool) → elem x seen ≡ b → x ∈ cond b seen (snoc seen x)
    gives seen true e = elem_out x seen e
    gives seen false e = unfold snoc in at_end seen x

    keeps : (y : ℕ) (seen : List ℕ) (b : Bool) → x ∈ seen → x ∈ cond b seen (snoc seen y)
    keeps y seen true k = k
    keeps y seen false k = unfold snoc in in_left (y ∷ []) k

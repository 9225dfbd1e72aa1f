-- Unions against their code: a law for each way out of each function, and a union's ranges from a row on and before it.
use mathlib.Core.Path.{◌≡◌, refl, sym, ◌∙◌, ap}
use mathlib.Core.List.{List, [], ◌∷◌, ◌++◌, map, append-nil}
use Prim.Native.Nat.{ℕ, zero, suc, ◌+◌, ◌-◌, ◌*◌, ◌/◌, ◌%◌, ◌<◌, ◌≤◌}
use native.Mathlib.Nat.{le_of_suc-le-suc, not-suc-le-zero, add-zero}
use native.Mathlib.Numerals.{add-one}
use native.Mathlib.Decide.{dec_lt, ℕ_discrete}
use native.Mathlib.Omega.{arith}
use lib.ListN.{length, get_or, set, take, drop, length-map, take-append-drop, drop_of_length-le, get_or-eq_default, get_or-append}
use lib.Seq.{get_or_at, get_or-set_same, get_or-set_other, drop-cons, take-suc, take-add, take_all, ext_get_or}
use borrow.Author.Tests.{eq-eqb, ne_eqb}
use Rattle.rules.specs.Lists.{filter, snoc, up_to}
use Rattle.rules.proofs.ListLaws.{length_up_to, length_snoc}
use Rattle.words.specs.Words.{words, words_in}
use Rattle.unions.specs.declared.Member.{Member}
use Rattle.unions.specs.Unions.{Row, no_row, row_from, row_in, rows, row_of, pushed, ranges_of, left, before, NoneOf, NextOf}

-- ---- rows

pub length_rows : (n : ℕ) (b : List ℕ) → length (rows n b) ≡ n
unfolding rows
length_rows n b = length-map (up_to 0 n) (row_in (words b)) ∙ length_up_to 0 n

numbered : (f : ℕ → Row) (i n j : ℕ) → j < n → get_or (map f (up_to i n)) j no_row ≡ f (i + j)
unfolding up_to
numbered f i zero j h = absurd (not-suc-le-zero h)
numbered f i (suc n) zero h = ap f (sym (add-zero i))
numbered f i (suc n) (suc j) h =
    let e : suc i + j ≡ i + suc j = omega arith in
    numbered f (suc i) n j (le_of_suc-le-suc h) ∙ ap f e

pub row_at_law : (n : ℕ) (b : List ℕ) (i : ℕ) → i < n → get_or (rows n b) i no_row ≡ row_in (words b) i
unfolding rows
row_at_law n b i h =
    let e : 0 + i ≡ i = omega arith in
    numbered (row_in (words b)) 0 n i h ∙ ap (row_in (words b)) e

pub member_in : (n i x : ℕ) (b : List ℕ) → i < n → x ≡ get_or (words b) (2 * i) 0 → row_of (record { union = x / 512; range = x % 512 }) ≡ get_or (rows n b) i no_row
unfolding row_of row_in row_from
member_in n i x b h e = rw (row_at_law n b i h, e)

pub member_past : (n i : ℕ) (b : List ℕ) → n ≤ i → row_of (record { union = 0; range = 0 }) ≡ get_or (rows n b) i no_row
unfolding row_of
member_past n i b h =
    let g : length (rows n b) ≤ i = rw length_rows h in
    sym (get_or-eq_default (rows n b) no_row g)

-- ---- the next row of a union

module _ {u : ℕ} {rs : List Row} where
  pub none_start : {from : ℕ} → NoneOf rs u from from
  none_start = record { onward = omega arith; none = λ j a b e. omega arith }

  none_more : {from i : ℕ} → NoneOf rs u from i → ((get_or rs i no_row).union ≡ u → ⊥) → NoneOf rs u from (i + 1)
  none_more {from} {i} f other = record { onward = let o = f.onward in omega arith; none = passed }
    where
      passed : (j : ℕ) → from ≤ j → j < i + 1 → (get_or rs j no_row).union ≡ u → ⊥
      passed j a b e = elim (ℕ_discrete j i) [ yes q ↦ other (rw q at e) | no q ↦ f.none j a (omega arith) e ]

module _ (n : ℕ) (b : List ℕ) {u from i : ℕ} (f : NoneOf (rows n b) u from i) where
  pub none_end : i ≤ n → n ≤ i → NextOf n (rows n b) u from n
  none_end l h =
      let e : i ≡ n = omega arith in
      record { before = rw e at f; most = omega arith; here = λ g. omega arith }

  module _ (x : ℕ) (h : i < n) (e : x ≡ get_or (words b) (2 * i) 0) where
    union_is : (get_or (rows n b) i no_row).union ≡ x / 512
    unfolding row_in row_from
    union_is = rw (row_at_law n b i h, e)

    pub none_passed : (x / 512 ≡ u → ⊥) → NoneOf (rows n b) u from (i + 1)
    none_passed d = none_more f (λ q. d (sym union_is ∙ q))

    pub next_found : x / 512 ≡ u → NextOf n (rows n b) u from i
    next_found d = record { before = f; most = omega arith; here = λ g. union_is ∙ d }

-- ---- one row more

module _ (n : ℕ) (b b₁ : List ℕ) (m : Member) (h : n < 13107) (l : 52428 ≤ length b) (low : m.union < 128) (small : m.range < 512)
    (e : words b₁ ≡ set (words b) (2 * n) (m.union * 512 + m.range)) where
  row_before : (i : ℕ) → i < n → row_in (words b₁) i ≡ row_in (words b) i
  unfolding row_in
  row_before i g = rw (e, get_or-set_other (words b) (2 * n) (2 * i) (m.union * 512 + m.range) 0 (λ q. omega arith))

  row_new : row_in (words b₁) n ≡ row_of m
  unfolding row_in row_from row_of
  row_new =
      let g : 2 * n < length (words b) = words_in b (2 * n) (omega arith) in
      let x : (m.union * 512 + m.range) / 512 ≡ m.union = omega arith in
      let y : (m.union * 512 + m.range) % 512 ≡ m.range = omega arith in
      rw (e, get_or-set_same (words b) (2 * n) (m.union * 512 + m.range) 0 g, x, y)

  row_after : (i : ℕ) → i < n + 1 → get_or (rows (n + 1) b₁) i no_row ≡ get_or (rows n b ++ (row_of m ∷ [])) i no_row
  row_after i g = elim (dec_lt i n) [
    | yes k ↦
        let q : i < length (rows n b) = rw length_rows k in
        rw (row_at_law (n + 1) b₁ i g, row_before i k, get_or-append (rows n b) (row_of m ∷ []) no_row i q, row_at_law n b i k)
    | no k ↦
        let q : i ≡ n = omega arith in
        row_at_law (n + 1) b₁ i g ∙ rw (q, row_new) (sym (get_or_at (rows n b) (row_of m) [] no_row n (length_rows n b)))
  ]

  pub push_is : rows (n + 1) b₁ ≡ pushed (rows n b) (row_of m)
  unfolding pushed snoc
  push_is =
      let q : length (rows (n + 1) b₁) ≡ length (snoc (rows n b) (row_of m)) = rw (length_snoc, length_rows (n + 1) b₁, length_rows n b) (add-one n) in
      ext_get_or no_row (rows (n + 1) b₁) (rows n b ++ (row_of m ∷ [])) q (λ i g. row_after i (rw length_rows at g))

-- a link stored changes no row
pub rows_linked : (n : ℕ) (b b₁ : List ℕ) (i v : ℕ) → words b₁ ≡ set (words b) (2 * i + 1) v → rows n b₁ ≡ rows n b
rows_linked n b b₁ i v e =
    let q : length (rows n b₁) ≡ length (rows n b) = rw (length_rows n b₁, length_rows n b) in
    ext_get_or no_row (rows n b₁) (rows n b) q (λ j g. same j (rw length_rows at g))
  where
    kept : (j : ℕ) → row_in (words b₁) j ≡ row_in (words b) j
    kept j = unfold row_in in rw (e, get_or-set_other (words b) (2 * i + 1) (2 * j) v 0 (λ q. omega arith))

    same : (j : ℕ) → j < n → get_or (rows n b₁) j no_row ≡ get_or (rows n b) j no_row
    same j g = row_at_law n b₁ j g ∙ (kept j ∙ sym (row_at_law n b j g))

-- ---- the ranges of a union

ranges_here : (u : ℕ) (x : Row) (rs : List Row) → x.union ≡ u → ranges_of u (x ∷ rs) ≡ x.range ∷ ranges_of u rs
unfolding ranges_of filter
ranges_here u x rs e = rw (eq-eqb x.union u e, filter)

ranges_other : (u : ℕ) (x : Row) (rs : List Row) → (x.union ≡ u → ⊥) → ranges_of u (x ∷ rs) ≡ ranges_of u rs
unfolding ranges_of filter
ranges_other u x rs e = rw (ne_eqb x.union u e, filter)

ranges_none : (u : ℕ) → ranges_of u [] ≡ []
unfolding ranges_of filter
ranges_none u = refl

ranges_append : (u : ℕ) (rs qs : List Row) → ranges_of u (rs ++ qs) ≡ ranges_of u rs ++ ranges_of u qs
ranges_append u [] qs = rw (ranges_none u)
ranges_append u (x ∷ rs) qs = elim (ℕ_discrete x.union u) [
  | yes e ↦ rw (ranges_here u x (rs ++ qs) e, ranges_here u x rs e, ranges_append u rs qs)
  | no e ↦ rw (ranges_other u x (rs ++ qs) e, ranges_other u x rs e, ranges_append u rs qs)
]

-- a row more is a range more of its union, and of no other
pub ranges_pushed : (u : ℕ) (x : Row) (rs : List Row) → x.union ≡ u → ranges_of u (pushed rs x) ≡ snoc (ranges_of u rs) x.range
unfolding pushed snoc
ranges_pushed u x rs e = rw (ranges_append u rs (x ∷ []), ranges_here u x [] e, ranges_none u)

pub ranges_pushed_other : (u : ℕ) (x : Row) (rs : List Row) → (x.union ≡ u → ⊥) → ranges_of u (pushed rs x) ≡ ranges_of u rs
unfolding pushed snoc
ranges_pushed_other u x rs e = rw (ranges_append u rs (x ∷ []), ranges_other u x [] e, ranges_none u) (append-nil (ranges_of u rs))

-- a union with a row has a range
pub row_of_none : (i : ℕ) (rs : List Row) → i < length rs → ranges_of (get_or rs i no_row).union rs ≡ [] → ⊥
row_of_none i [] h e = absurd (not-suc-le-zero h)
row_of_none zero (x ∷ rs) h e =
    let q : x.range ∷ ranges_of x.union rs ≡ [] = sym (ranges_here x.union x rs refl) ∙ e in
    let z : ◌≡◌ {A = ℕ} 0 1 = cc in
    omega arith
row_of_none (suc i) (x ∷ rs) h e = elim (ℕ_discrete x.union (get_or rs i no_row).union) [
  | yes q ↦
      let c : x.range ∷ ranges_of (get_or rs i no_row).union rs ≡ [] = sym (ranges_here (get_or rs i no_row).union x rs q) ∙ e in
      let z : ◌≡◌ {A = ℕ} 0 1 = cc in
      omega arith
  | no q ↦ row_of_none i rs (le_of_suc-le-suc h) (sym (ranges_other (get_or rs i no_row).union x rs q) ∙ e)
]

pub left_past : (u i : ℕ) (rs : List Row) → length rs ≤ i → left u i rs ≡ []
unfolding left
left_past u i rs h = ap (ranges_of u) (drop_of_length-le rs h) ∙ ranges_none u

-- ---- a row more of those that are left, and of those before

module _ (u i : ℕ) (rs : List Row) (h : i < length rs) where
  opened : drop i rs ≡ get_or rs i no_row ∷ drop (i + 1) rs
  opened = rw add-one (drop-cons rs i no_row h)

  pub left_here : (get_or rs i no_row).union ≡ u → left u i rs ≡ (get_or rs i no_row).range ∷ left u (i + 1) rs
  unfolding left
  left_here e = ap (ranges_of u) opened ∙ ranges_here u (get_or rs i no_row) (drop (i + 1) rs) e

  left_other : ((get_or rs i no_row).union ≡ u → ⊥) → left u i rs ≡ left u (i + 1) rs
  unfolding left
  left_other e = ap (ranges_of u) opened ∙ ranges_other u (get_or rs i no_row) (drop (i + 1) rs) e

  taken : take (i + 1) rs ≡ pushed (take i rs) (get_or rs i no_row)
  unfolding pushed snoc
  taken = rw add-one (take-suc rs i no_row h)

  pub before_here : (get_or rs i no_row).union ≡ u → before u (i + 1) rs ≡ snoc (before u i rs) (get_or rs i no_row).range
  unfolding before
  before_here e = ap (ranges_of u) taken ∙ ranges_pushed u (get_or rs i no_row) (take i rs) e

  pub before_other : ((get_or rs i no_row).union ≡ u → ⊥) → before u (i + 1) rs ≡ before u i rs
  unfolding before
  before_other e = ap (ranges_of u) taken ∙ ranges_pushed_other u (get_or rs i no_row) (take i rs) e

pub before_none : (u : ℕ) (rs : List Row) → before u 0 rs ≡ []
unfolding before
before_none u rs = ranges_none u

pub before_all : (u i : ℕ) (rs : List Row) → length rs ≤ i → before u i rs ≡ ranges_of u rs
unfolding before
before_all u i rs h = ap (ranges_of u) (take_all i rs h)

-- those of the first i rows, and of d rows behind them
pub before_more : (u i d : ℕ) (rs : List Row) → before u (i + d) rs ≡ before u i rs ++ ranges_of u (take d (drop i rs))
unfolding before
before_more u i d rs = ap (ranges_of u) (take-add i d rs) ∙ ranges_append u (take i rs) (take d (drop i rs))

pub before_left : (u i : ℕ) (rs : List Row) → before u i rs ++ left u i rs ≡ ranges_of u rs
unfolding before left
before_left u i rs = sym (ranges_append u (take i rs) (drop i rs)) ∙ ap (ranges_of u) (take-append-drop i rs)

-- rows of other unions are passed
left_passed : (u from d : ℕ) (rs : List Row) → from + d ≤ length rs → NoneOf rs u from (from + d) → left u from rs ≡ left u (from + d) rs
left_passed u from zero rs l f = let e : from + 0 ≡ from = omega arith in rw e
left_passed u from (suc d) rs l f =
    let e : from + suc d ≡ (from + d) + 1 = omega arith in
    left_passed u from d rs (omega arith) (record { onward = omega arith; none = λ j a b. f.none j a (omega arith) })
    ∙ (left_other u (from + d) rs (omega arith) (f.none (from + d) (omega arith) (omega arith)) ∙ rw e)

pub left_next : {n u from r : ℕ} (b : List ℕ) → NextOf n (rows n b) u from r → left u from (rows n b) ≡ left u r (rows n b)
left_next {n} {u} {from} {r} b f =
    let o = f.before.onward in
    let e : r ≡ from + (r - from) = omega arith in
    rw (e) (left_passed u from (r - from) (rows n b) (rw (length_rows n b) (let m = f.most in omega arith)) (rw e at f.before))

-- ---- a range is below its ceiling

pub range_low : (n : ℕ) (b : List ℕ) (i : ℕ) → i < n → (get_or (rows n b) i no_row).range < 512
unfolding row_in row_from
range_low n b i h = rw (row_at_law n b i h) (omega arith)

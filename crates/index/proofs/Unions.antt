-- A walk along a union: idle rows change neither its distinct ranges nor how many candidates it has, up to four.
use mathlib.Core.Path.{◌≡◌, refl, sym, ap, ◌∙◌}
use mathlib.Core.Bool.{cond}
use mathlib.Core.List.Memᴰ
use mathlib.Core.List.{List, [], ◌∷◌, append-nil}
use Prim.Native.Nat.{ℕ, ◌+◌, ◌<◌, ◌≤◌}
use native.Mathlib.Omega.{arith}
use native.Mathlib.Decide.{ℕ_discrete, dec_lt}
use lib.ListN.{length, get_or, length-append}
use Rattle.rules.specs.Called.{◌∈◌}
use Rattle.rules.specs.Lists.{elem, snoc, fold, concat_map, distinct}
use Rattle.rules.specs.Catalogue.{Catalogue, union}
use Rattle.rules.specs.Candidates.{sorted, goal_ranges}
use Rattle.rules.proofs.ListLaws.{concat_map_append}
use Rattle.rules.proofs.Membership.{elem_in, distinct_in}
use Rattle.rules.proofs.DistinctEnough.{fold_append}
use Rattle.tables.specs.declared.Counts.{Counts}
use Rattle.unions.specs.declared.Member.{Member}
use Rattle.unions.specs.Unions.{Row, no_row, rows, row_of, ranges_of, left, before}
use Rattle.unions.proofs.Laws.{length_rows, before_here, before_other, before_none, before_all, before_left}
use Rattle.cache.specs.Areas.{catalogue}
use Rattle.cache.proofs.Laws.{union_ranges_held, union_missing}
use Rattle.index.specs.Members.{Idle, At, Passes}
use Rattle.index.specs.Indexed.{Indexed}
use Rattle.index.proofs.Walking.{walk_union}
use Rattle.index.proofs.Times.{times_in, times_length}

-- ---- each number once

-- one number more
pub distinct_snoc : (xs : List ℕ) (x : ℕ) → distinct (snoc xs x) ≡ cond (elem x (distinct xs)) (distinct xs) (snoc (distinct xs) x)
unfolding distinct snoc fold
distinct_snoc xs x = fold_append (λ y seen. cond (elem y seen) seen (snoc seen y)) xs (x ∷ []) []

-- a number again
distinct_again : (xs : List ℕ) (x : ℕ) → x ∈ xs → distinct (snoc xs x) ≡ distinct xs
distinct_again xs x h = distinct_snoc xs x ∙ rw (elem_in (distinct xs) (distinct_in xs x h))

nothing_distinct : (xs : List ℕ) → distinct xs ≡ [] → xs ≡ []
nothing_distinct [] e = refl
nothing_distinct (x ∷ xs) e = absurd (Memᴰ.not-nil (rw e at (distinct_in (x ∷ xs) x (Memᴰ.head refl))))

-- ---- a union of the catalogue

concat_map_snoc : (f : ℕ → List ℕ) (xs : List ℕ) (x : ℕ) → length (concat_map f (snoc xs x)) ≡ length (concat_map f xs) + length (f x)
unfolding snoc
concat_map_snoc f xs x = rw (concat_map_append f xs (x ∷ []), length-append) (unfold concat_map in rw append-nil)

module _ (k : Counts) (m us t : List ℕ) (d : Indexed k m us t) where
  abbrev c : Catalogue
  c = catalogue k m us t

  abbrev rs : List Row
  rs = rows k.members us

  -- a union that is not given has no rows
  pub union_ranges : (u : ℕ) → goal_ranges c (union u) ≡ ranges_of u rs
  unfolding goal_ranges
  union_ranges u = elim (dec_lt u k.unions) [
    | yes h ↦ union_ranges_held k m us t u h
    | no h ↦ let g : k.unions ≤ u = omega arith in union_missing k m us t u g ∙ sym (d.given.none_yet u g)
  ]

  inside : {i : ℕ} → i < k.members → i < length rs
  inside h = rw length_rows h

  -- ---- its candidates, up to four

  pass_total : {u from r : ℕ} → Passes k rs u from r → length (concat_map (sorted c) (before u from rs)) < 4
      → length (concat_map (sorted c) (before u r rs)) ≡ length (concat_map (sorted c) (before u from rs))
  pass_total {u} {from} p few = walk_union (λ i. length (concat_map (sorted c) (before u i rs)) ≡ length (concat_map (sorted c) (before u from rs))) past p refl
    where
      past : (i : ℕ) → i < k.members → ((get_or rs i no_row).union ≡ u → Idle rs u i)
          → length (concat_map (sorted c) (before u i rs)) ≡ length (concat_map (sorted c) (before u from rs))
          → length (concat_map (sorted c) (before u (i + 1) rs)) ≡ length (concat_map (sorted c) (before u from rs))
      past i h q e = elim (ℕ_discrete (get_or rs i no_row).union u) [
        | yes z ↦ rw (before_here u i rs (inside h) z, concat_map_snoc (sorted c) (before u i rs) (get_or rs i no_row).range) (elim (dec_lt 0 (length (sorted c (get_or rs i no_row).range))) [
          | yes l ↦
              let o = (q z).often in
              let none : ⊥ = omega (arith, times_length (get_or rs i no_row).range (sorted c) (before u i rs) l) in
              absurd none
          | no l ↦ omega arith
        ])
        | no z ↦ rw (before_other u i rs (inside h) z) e
      ]

  pub total_start : {u r : ℕ} → Passes k rs u 0 r → length (concat_map (sorted c) (before u r rs)) ≡ 0
  total_start {u} p =
      let e : length (concat_map (sorted c) (before u 0 rs)) ≡ 0 = rw (before_none u rs) (unfold concat_map in refl) in
      pass_total p (omega arith) ∙ e

  -- ---- its distinct ranges

  pass_distinct : {u from r : ℕ} → Passes k rs u from r → distinct (before u from rs) ≡ distinct (before u r rs)
  pass_distinct {u} {from} p = walk_union (λ i. distinct (before u from rs) ≡ distinct (before u i rs)) past p refl
    where
      again : (i : ℕ) → Idle rs u i → (get_or rs i no_row).range ∈ before u i rs
      again i q = times_in (get_or rs i no_row).range (before u i rs) (let o = q.often in omega arith)

      past : (i : ℕ) → i < k.members → ((get_or rs i no_row).union ≡ u → Idle rs u i) → distinct (before u from rs) ≡ distinct (before u i rs)
          → distinct (before u from rs) ≡ distinct (before u (i + 1) rs)
      past i h q e = elim (ℕ_discrete (get_or rs i no_row).union u) [
        | yes z ↦ e ∙ (sym (distinct_again (before u i rs) (get_or rs i no_row).range (again i (q z))) ∙ ap distinct (sym (before_here u i rs (inside h) z)))
        | no z ↦ e ∙ ap distinct (sym (before_other u i rs (inside h) z))
      ]

  pub distinct_start : {u r : ℕ} → Passes k rs u 0 r → distinct (before u r rs) ≡ []
  distinct_start {u} {r} p = sym (pass_distinct p) ∙ (ap distinct (before_none u rs) ∙ (unfold distinct fold in refl))

  -- before its first row is none
  pub left_start : {u r : ℕ} → Passes k rs u 0 r → left u r rs ≡ ranges_of u rs
  left_start {u} {r} p = rw (nothing_distinct (before u r rs) (distinct_start p)) at (before_left u r rs)

  pub ranges_end : (u i : ℕ) → k.members ≤ i → before u i rs ≡ ranges_of u rs
  ranges_end u i h = before_all u i rs (rw length_rows h)

  -- ---- a row and the next

  module _ {u i : ℕ} (at : At k.members rs u i) (a : Member) (h : i < k.members) (e : row_of a ≡ get_or rs i no_row) where
    -- its candidates with those before
    pub total_here : length (concat_map (sorted c) (before u (i + 1) rs)) ≡ length (concat_map (sorted c) (before u i rs)) + length (sorted c a.range)
    unfolding row_of
    total_here = rw (before_here u i rs (inside h) (at.here h), ← e) (concat_map_snoc (sorted c) (before u i rs) a.range)

    module _ {r : ℕ} (p : Passes k rs (get_or rs i no_row).union (i + 1) r) where
      along : Passes k rs u (i + 1) r
      along = rw (at.here h) at p

      pub at_next : At k.members rs u r
      at_next = along.at

      pub total_step : length (concat_map (sorted c) (before u i rs)) + length (sorted c a.range) < 4
          → length (concat_map (sorted c) (before u r rs)) ≡ length (concat_map (sorted c) (before u i rs)) + length (sorted c a.range)
      total_step few = pass_total along (rw total_here few) ∙ total_here

      pub distinct_step : distinct (before u r rs) ≡ cond (elem a.range (distinct (before u i rs))) (distinct (before u i rs)) (snoc (distinct (before u i rs)) a.range)
      unfolding row_of
      distinct_step =
          sym (pass_distinct along) ∙ (ap distinct (before_here u i rs (inside h) (at.here h)) ∙ rw (← e) (distinct_snoc (before u i rs) a.range))

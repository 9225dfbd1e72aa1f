-- A condition by its list: each disjunct has a blocked range, one that had none gets one.
use mathlib.Core.Path.{◌≡◌, sym, ◌∙◌, ap}
use mathlib.Core.Logic.{⊎_elim}
use mathlib.Core.Bool.{Bool, true, false, not, false≢true}
use mathlib.Core.List.Memᴰ
use mathlib.Core.List.{List, [], ◌∷◌}
use Prim.Native.Nat.{ℕ, zero, suc, ◌+◌, ◌<◌, ◌≤◌}
use native.Mathlib.Omega.{arith}
use lib.Dec.{eqb}
use lib.ListN.{length, get_or, take, length-take}
use lib.Seq.{get_or-take}
use borrow.Author.Tests.{eqb-true, eqb-false, not-false}
use Rattle.std.proofs.lemmas.List.{get_or_default}
use Rattle.rules.specs.Lists.{any}
use Rattle.rules.specs.Called.{◌∈◌}
use Rattle.rules.specs.Catalogue.{Catalogue, Condition, and, or, leaf, joined, no_condition}
use Rattle.rules.specs.Conditions.{Disjunct, combined, from_halves, disjuncts_below, disjuncts}
use Rattle.rules.proofs.Bools.{by_cases}
use Rattle.rules.proofs.Member.{any_in, at_member}
use Rattle.rules.proofs.WellFormed.{WellFormed, ConditionFits}
use Rattle.tables.specs.declared.Counts.{Counts}
use Rattle.tables.specs.declared.Tables as read
use Rattle.tables.specs.Tables.{tables}
use Rattle.conditions.specs.declared.Disjunct as code
use Rattle.conditions.specs.Sizes.{Counted}
use Rattle.conditions.specs.Disjuncts.{ranges_of, Carries}
use Rattle.cache.specs.Areas.{catalogue}
use Rattle.cache.proofs.Laws.{ranges_held, conditions_held, conditions_same}
use Rattle.index.specs.Catalogued.{Catalogued}
use Rattle.blocking.specs.declared.Listing.{Listing}
use Rattle.blocking.specs.declared.Verdict.{Verdict}
use Rattle.blocking.specs.declared.Known.{Known}
use Rattle.blocking.specs.declared.Blocking.{Blocking}
use Rattle.blocking.specs.Blocking.{range_blocked, Right, Grows, RangeJudged, disjunct_in, AllStand, Row, no_disjunct, RowBarred, RowBars, DisjunctBars, EachBars}
use Rattle.blocking.proofs.Barring.{halves}
use Rattle.blocking.proofs.Verdicts.{grows_same, grows_then}

-- ---- the ranges of disjuncts are given

module _ (c : Catalogue) (w : WellFormed c) where
  given_below : (n x : ℕ) → n ≤ length c.conditions → (d : Disjunct) → d ∈ disjuncts_below c.conditions n x → (r : ℕ) → r ∈ d → r < length c.ranges
  unfolding disjuncts_below
  given_below zero x h d m r i = absurd (Memᴰ.not-nil m)
  given_below (suc n) x h d m r i = go (eqb x n) m (λ y e j. given_below n y (omega arith) e j)
    where
      from : (q : Condition) → ConditionFits c n q → ((y : ℕ) (e : Disjunct) → e ∈ disjuncts_below c.conditions n y → (s : ℕ) → s ∈ e → s < length c.ranges)
          → d ∈ from_halves q (disjuncts_below c.conditions n) → r < length c.ranges
      from (leaf s) f g m =
          unfold from_halves in
          let z : d ≡ s ∷ [] = Memᴰ.eq_of_singleton m in
          let y : r ≡ s = Memᴰ.eq_of_singleton (rw z at i) in
          rw y f
      from (joined or a b) f g m = unfold from_halves combined in ⊎_elim (λ p. g a d p r i) (λ p. g b d p r i) (Memᴰ.append_cases (disjuncts_below c.conditions n a) m)
      from (joined and a b) f g m =
          unfold from_halves in
          let p = halves (disjuncts_below c.conditions n a) (disjuncts_below c.conditions n b) d m in
          ⊎_elim (g a p.0 p.1 r) (g b p.2 p.3 r) (Memᴰ.append_cases p.0 (rw p.4 at i))

      go : (b : Bool) → d ∈ elim b [ true ↦ from_halves (get_or c.conditions n no_condition) (disjuncts_below c.conditions n) | false ↦ disjuncts_below c.conditions n x ]
          → ((y : ℕ) (e : Disjunct) → e ∈ disjuncts_below c.conditions n y → (s : ℕ) → s ∈ e → s < length c.ranges) → r < length c.ranges
      go true m g = from (get_or c.conditions n no_condition) (w.conditions n (omega arith)) g m
      go false m g = g x d m r i

  ranges_given : (x : ℕ) → x < length c.conditions → (d : Disjunct) → d ∈ disjuncts c.conditions x → (r : ℕ) → r ∈ d → r < length c.ranges
  unfolding disjuncts
  ranges_given x h d m r i = given_below (suc x) x (omega arith) d m r i

-- ---- a disjunct of the listing

-- one that has a place
stands : (listing : Listing) (i : ℕ) (o : code.Disjunct) → i < length listing.disjuncts → get_or listing.disjuncts i o ≡ disjunct_in listing i
stands listing i o h = get_or_default listing.disjuncts i o no_disjunct h

-- its range at place j
carried : {d : code.Disjunct} {xs : List ℕ} → Carries d xs → (j : ℕ) → j < d.len → get_or d.ranges j 0 ≡ get_or xs j 0
unfolding ranges_of
carried {d} c j h = sym (get_or-take d.len d.ranges j 0 h) ∙ ap (λ (u : List ℕ). get_or u j 0) c.is

module _ (k : Counts) (m u t : List ℕ) (y : Catalogued k m u t) where
  module _ {listing : Listing} {x a i : ℕ} (g : x < k.conditions) (z : AllStand (tables k t).conditions listing x) (c : Counted (tables k t).conditions x a) (h : i < a) where
    pub row_of : (o : code.Disjunct) → i < length listing.disjuncts → Row k.ranges (get_or listing.disjuncts i o)
    row_of o n = rw (stands listing i o n) (record { short = (z.each i inside).is.room; given = given })
      where
        inside : i < length (disjuncts (tables k t).conditions x)
        inside = omega (arith, c.is)

        same : disjuncts (catalogue k m u t).conditions x ≡ disjuncts (tables k t).conditions x
        same = rw (conditions_same k m u t)

        given : (j : ℕ) → j < (disjunct_in listing i).len → get_or (disjunct_in listing i).ranges j 0 < k.ranges
        given j b =
            let p = (z.each i inside).is in
            let d : Disjunct = get_or (disjuncts (tables k t).conditions x) i [] in
            let q = ranges_given (catalogue k m u t) y.formed x (rw (conditions_held k m u t) g) d
            (rw same (at_member (disjuncts (tables k t).conditions x) i [] inside)) (get_or d j 0) (at_member d j 0 (omega (arith, p.len))) in
            omega (arith, carried p j b, ranges_held k m u t, q)

-- place j of its ranges
pub range_in : (d : code.Disjunct) {rs : List ℕ} {j : ℕ} → rs ≡ ranges_of d → j < length rs → (j < d.len) × (get_or rs j 0 ≡ get_or d.ranges j 0)
unfolding ranges_of
range_in d {rs} {j} e h =
    let g : j < length (take d.len d.ranges) = rw e at h in
    let inside : j < d.len = omega (arith, length-take d.len d.ranges) in
    (inside, rw e (get_or-take d.len d.ranges j 0 inside))

pub range_low : {most : ℕ} {d : code.Disjunct} {rs : List ℕ} {j : ℕ} → Row most d → rs ≡ ranges_of d → j < length rs → get_or rs j 0 < most
range_low {d = d} y e h = let p = range_in d e h in rw p.1 (y.given _ p.0)

pub row_barred : {d : code.Disjunct} {s : Blocking} {rs : List ℕ} {j : ℕ} → rs ≡ ranges_of d → j < length rs → range_blocked s (get_or rs j 0) ≡ true → RowBars d s true
row_barred {d} {j = j} e h i = let p = range_in d e h in record { is = λ _. record { place = j; inside = p.0; is = rw p.1 at i } }

row_more : {d : code.Disjunct} {s s' : Blocking} → ((r : ℕ) → range_blocked s r ≡ true → range_blocked s' r ≡ true) → RowBarred d s → RowBarred d s'
row_more {d} f b = record { place = b.place; inside = b.inside; is = f (get_or d.ranges b.place 0) b.is }

-- ---- its ranges are asked

module _ {c : Catalogue} {f : ℕ → Bool} {vs : Known} {s : Blocking} where
  pub some_step : {vs₁ vs₂ : Known} {s₁ s₂ : Blocking} {r : ℕ} {v : Verdict} → Grows c f vs s vs₁ s₁ → RangeJudged c f r v vs₁ s₁ vs₂ s₂ → Grows c f vs s vs₂ s₂
  some_step y d = grows_then y d.grows

  module _ {d : code.Disjunct} where
    module _ {vs₁ : Known} {s₁ : Blocking} (y : Grows c f vs s vs₁ s₁) where
      pub disjunct_here : {rs : List ℕ} {j : ℕ} {v : Verdict} {vs₂ : Known} {s₂ : Blocking} → rs ≡ ranges_of d → j < length rs → RangeJudged c f (get_or rs j 0) v vs₁ s₁ vs₂ s₂
          → v ≡ Verdict.Barred → DisjunctBars c f d true vs s vs₂ s₂
      disjunct_here {j = j} q h b e =
          let p = range_in d q h in
          record { grows = some_step y b; is = λ _ z. record { place = j; inside = p.0; is = rw p.1 at ((b.says (y.keeps z)).barred e) } }

-- ---- condition x

-- the loop at disjunct i
pub record Each (c : Catalogue) (f : ℕ → Bool) (listing : Listing) (i : ℕ) (vs : Known) (s : Blocking) (vs' : Known) (s' : Blocking) : Type 0 where
  pub grows : Grows c f vs s vs' s'
  pub passed : Right c f vs s → (h : ℕ) → h < i → RowBarred (disjunct_in listing h) s'

pub each_start : {c : Catalogue} {f : ℕ → Bool} {listing : Listing} {vs : Known} {s : Blocking} → Each c f listing 0 vs s vs s
each_start = record { grows = grows_same; passed = λ _ h l. let no : ⊥ = omega arith in absurd no }

-- what is so at each place of a list is so of each that is in it
each_in : {A : Type 0} (P : A → Type 0) (o : A) (xs : List A) → ((i : ℕ) → i < length xs → P (get_or xs i o)) → (x : A) → x ∈ xs → P x
each_in P o [] h x m = elim m [ ]
each_in P o (y ∷ xs) h x (Memᴰ.head q) = rw q (h 0 (omega arith))
each_in P o (y ∷ xs) h x (Memᴰ.tail m) = each_in P o xs (λ i l. h (suc i) (omega arith)) x m

module _ {c : Catalogue} {f : ℕ → Bool} {listing : Listing} {i : ℕ} {vs vs₁ : Known} {s s₁ : Blocking} (y : Each c f listing i vs s vs₁ s₁) where
  module _ {a : Bool} {vs₂ : Known} {s₂ : Blocking} (o : code.Disjunct) (n : i < length listing.disjuncts) (b : DisjunctBars c f (get_or listing.disjuncts i o) a vs₁ s₁ vs₂ s₂) where
    d : DisjunctBars c f (disjunct_in listing i) a vs₁ s₁ vs₂ s₂
    d = rw (stands listing i o n) at b

    pub each_step : not a ≡ false → Each c f listing (i + 1) vs s vs₂ s₂
    each_step e =
        record {
          grows = grows_then y.grows d.grows;
          passed = λ z h l. by_cases (eqb h i) (λ q. rw (eqb-true h i q) (d.is (not-false a e) (y.grows.keeps z)))
              (λ q. row_more d.grows.still (y.passed z h (omega (arith, eqb-false h i q))));
        }

    pub each_not : (x : ℕ) → EachBars c f x false vs s vs₂ s₂
    each_not x = record { grows = grows_then y.grows d.grows; barred = λ e. absurd (false≢true e) }

module _ (k : Counts) (m u t : List ℕ) {f : ℕ → Bool} {listing : Listing} {i : ℕ} {vs vs₁ : Known} {s s₁ : Blocking} (y : Each (catalogue k m u t) f listing i vs s vs₁ s₁) {x n : ℕ}
    (z : AllStand (tables k t).conditions listing x) (a : Counted (tables k t).conditions x n) where
  pub each_end : n ≤ i → EachBars (catalogue k m u t) f x true vs s vs₁ s₁
  each_end e = record { grows = y.grows; barred = λ _ h. record { each = λ d o. each_in (λ (d : Disjunct). any (range_blocked s₁) d ≡ true) [] (disjuncts (tables k t).conditions x) (at h) d (rw (conditions_same k m u t) at o) } }
    where
      at : Right (catalogue k m u t) f vs s → (j : ℕ) → j < length (disjuncts (tables k t).conditions x) → any (range_blocked s₁) (get_or (disjuncts (tables k t).conditions x) j []) ≡ true
      at h j l =
          let p = (z.each j l).is in
          let q = y.passed h j (omega (arith, a.is)) in
          let d : Disjunct = get_or (disjuncts (tables k t).conditions x) j [] in
          any_in (range_blocked s₁) d (get_or d q.place 0) (at_member d q.place 0 (omega (arith, p.len, q.inside))) (rw (carried p q.place q.inside) at q.is)

-- by the catalogue's conditions
pub counted_in : {p t : read.Tables} {x n : ℕ} → p ≡ t → Counted (tables p.counts p.area.now).conditions x n → Counted (tables t.counts t.area.now).conditions x n
counted_in e c = rw e at c

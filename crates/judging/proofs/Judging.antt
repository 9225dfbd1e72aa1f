-- Conditions are worked out one by one, halves first, and ranges asked once: the verdicts of each are right. And the flags that come of them.
use mathlib.Core.Path.{◌≡◌, refl, sym, ◌∙◌, ap}
use mathlib.Core.Bool.{Bool, true, false, ◌&&◌}
use mathlib.Core.List.{List, [], ◌∷◌, ◌++◌}
use Prim.Native.Nat.{ℕ, ◌+◌, ◌-◌, ◌*◌, ◌/◌, ◌%◌, ◌<◌, ◌≤◌}
use native.Mathlib.Nat.{div-add-mod', div-lt_iff_lt-mul, mod-lt}
use native.Mathlib.Decide.{dec_lt}
use native.Mathlib.Omega.{arith}
use lib.Dec.{eqb}
use lib.ListN.{length, get_or, set, take, replicate, get_or-replicate, length-replicate, get_or-eq_default}
use lib.Seq.{set_out, get_or-set_same, get_or-set_other, get_or-take}
use borrow.Author.Tests.{eqb-true, eqb-false}
use Rattle.rules.specs.Lists.{any, all}
use Rattle.rules.specs.Catalogue.{Catalogue, Operator, and, or, joined, no_condition}
use Rattle.rules.specs.Catalogue as rules
use Rattle.rules.specs.Candidates.{matching}
use Rattle.rules.specs.Conditions.{Disjunct, combined, disjuncts}
use Rattle.rules.specs.Opening.{holds_now}
use Rattle.rules.proofs.Bools.{by_cases}
use Rattle.rules.proofs.DisjunctLaws.{disjuncts_leaf, disjuncts_joined, length_or, length_and, or_left, or_right, and_at}
use Rattle.tables.specs.declared.Counts.{Counts}
use Rattle.tables.specs.Tables.{tables}
use Rattle.tables.proofs.Laws.{conditions_counted}
use Rattle.conditions.specs.Sizes.{Allowed, Earlier}
use Rattle.cache.specs.Areas.{catalogue}
use Rattle.cache.proofs.Laws.{ranges_held, conditions_held, conditions_same}
use Rattle.encoder.specs.declared.State.{State}
use Rattle.goals.specs.Goals.{truth_of}
use Rattle.goals.proofs.Parts.{all_both}
use Rattle.judging.specs.declared.Verdict.{Verdict}
use Rattle.judging.specs.declared.Verdict.TheVariants.{Unknown}
use Rattle.judging.specs.declared.Known.{Known}
use Rattle.judging.specs.Judging.{verdict_of, both, says_holds, Pairs, Either, row_of, verdict_at, Nothing, Verdicts, AsksRange, RangeAsked, Asks, WorkedOut}

-- ---- lists of one value, and writing past the end

pub repeated : {A : Type 0} (n i : ℕ) (a : A) → get_or (replicate n a) i a ≡ a
repeated n i a = elim (dec_lt i n) [ yes h ↦ get_or-replicate n i a a h | no h ↦ get_or-eq_default (replicate n a) a (omega (arith, length-replicate n a)) ]

pub zeros : (n i : ℕ) → ◌≡◌ {A = ℕ} (get_or (replicate n 0) i 0) 0
zeros n i = repeated n i 0

pub set_past : {A : Type 0} (vs : List A) (r : ℕ) (x : A) → length vs ≤ r → vs ≡ set vs r x
set_past vs r x h = sym (set_out vs r x h)

-- ---- verdicts

verdict_some : (b : Bool) → verdict_of b ≡ Unknown → ⊥
verdict_some true e = cc
verdict_some false e = cc

verdict_both : (a b : Bool) → both (verdict_of a) (verdict_of b) ≡ verdict_of (a && b)
verdict_both true true = refl
verdict_both true false = refl
verdict_both false true = refl
verdict_both false false = refl

verdict_is : (b : Bool) → says_holds (verdict_of b) ≡ b
verdict_is true = refl
verdict_is false = refl

-- nothing is worked out at the start
pub nothing : Nothing (record { disjuncts = replicate 256 (replicate 64 Unknown); ranges = replicate 512 Unknown })
nothing = record { disjuncts = disjuncts; ranges = λ r. repeated 512 r Unknown }
  where
    disjuncts : (x i : ℕ) → get_or (get_or (replicate 256 (replicate 64 Unknown)) x []) i Unknown ≡ Unknown
    disjuncts x i = elim (dec_lt x 256) [
      | yes h ↦ rw (get_or-replicate 256 x (replicate 64 Unknown) [] h) (repeated 64 i Unknown)
      | no h ↦ rw (get_or-eq_default (replicate 256 (replicate 64 Unknown)) [] {n = x} (omega (arith, length-replicate 256 (replicate 64 Unknown)))) refl
    ]

-- ---- one condition more is worked out

module _ {c : Catalogue} {cs : List rules.Condition} {f : ℕ → Bool} where
  -- the verdicts of condition x are put, right
  filled_works : {x : ℕ} {known : Known} (row : List Verdict) → x < length known.disjuncts → Allowed (disjuncts cs x) → Verdicts c cs f known
      → ((i : ℕ) → i < length (disjuncts cs x) → get_or row i Unknown ≡ verdict_of (holds_now c f (get_or (disjuncts cs x) i [])))
      → WorkedOut c cs f x known (record known { disjuncts = set known.disjuncts x row })
  filled_works {x} {known} row low a v g = record { right = record { is = right; ranges = v.ranges }; known = there; still = still }
    where
      new : Known
      new = record known { disjuncts = set known.disjuncts x row }

      here : row_of new x ≡ row
      here = get_or-set_same known.disjuncts x row [] low

      other : (y : ℕ) → (y ≡ x → ⊥) → row_of new y ≡ row_of known y
      other y n = get_or-set_other known.disjuncts x y row [] n

      there : verdict_at new x 0 ≡ Unknown → ⊥
      there e = verdict_some (holds_now c f (get_or (disjuncts cs x) 0 [])) (sym (g 0 a.some) ∙ rw here at e)

      still : (y : ℕ) → (verdict_at known y 0 ≡ Unknown → ⊥) → verdict_at new y 0 ≡ Unknown → ⊥
      still y h = by_cases (eqb y x) (λ p. rw (eqb-true y x p) there) (λ p. rw (other y (eqb-false y x p)) h)

      right : (y i : ℕ) → (verdict_at new y 0 ≡ Unknown → ⊥) → i < length (disjuncts cs y) → verdict_at new y i ≡ verdict_of (holds_now c f (get_or (disjuncts cs y) i []))
      right y i h m =
          by_cases (eqb y x) (λ p. let e = eqb-true y x p in rw (e, here) (g i (rw e at m)))
          (λ p. let e = other y (eqb-false y x p) in rw e (v.is y i (rw e at h) m))

  -- after others
  works_then : {x y : ℕ} {a b d : Known} → WorkedOut c cs f y a b → WorkedOut c cs f x b d → WorkedOut c cs f x a d
  works_then p q = record { right = q.right; known = q.known; still = λ z h. q.still z (p.still z h) }

alone : (b : Bool) → b ≡ (b && true)
alone true = refl
alone false = refl

module _ (k : Counts) (m u t : List ℕ) (state : State) where
  abbrev C : Catalogue
  C = catalogue k m u t

  abbrev cs : List rules.Condition
  cs = (tables k t).conditions

  abbrev f : ℕ → Bool
  f = truth_of state

  module _ {known : Known} {x : ℕ} (q : Asks k m u t state known x) where
    x_allowed : Allowed (disjuncts cs x)
    x_allowed = q.catalogued.kept.sized.allowed x (rw (conditions_counted k t) q.given)

    -- its verdicts have places
    pub place_there : x < 256
    place_there = omega (arith, q.given, q.catalogued.kept.held.laid.conditions)

    -- a leaf
    module _ {r : ℕ} (e : rules.leaf r ≡ get_or cs x no_condition) where
      pub range_asked : AsksRange k m u t state known r
      range_asked =
          let p = q.catalogued.formed.conditions x (rw (conditions_held k m u t) q.given) in
          let g : r < length C.ranges = rw (conditions_same k m u t, sym e) at p in
          record {
            catalogued = q.catalogued;
            mapped = q.mapped;
            kept = q.kept;
            right = q.right;
            given = omega (arith, g, ranges_held k m u t, q.catalogued.kept.held.laid.ranges);
          }

      pub leaf_works : {v : Verdict} {known₁ : Known} (row : List Verdict) → RangeAsked C cs f r v known known₁ → length known₁.disjuncts ≡ 256
          → get_or row 0 Unknown ≡ v → WorkedOut C cs f x known (record known₁ { disjuncts = set known₁.disjuncts x row })
      unfolding holds_now all
      leaf_works row d y g =
          let w = filled_works row (omega (arith, place_there)) x_allowed d.right here in
          record { right = w.right; known = w.known; still = λ j h. w.still j (d.still j h) }
        where
          one : disjuncts cs x ≡ (r ∷ []) ∷ []
          one = disjuncts_leaf cs x r (sym e)

          here : (i : ℕ) → i < length (disjuncts cs x) → get_or row i Unknown ≡ verdict_of (holds_now C f (get_or (disjuncts cs x) i []))
          here i h =
              let p : i < 1 = rw one at h in
              let i0 : i ≡ 0 = omega arith in
              rw (i0, one) (g ∙ (d.is ∙ ap verdict_of (alone (any f (matching C r)))))

    -- a joined condition
    module _ {o : Operator} {left right : ℕ} (e : joined o left right ≡ get_or cs x no_condition) where
      halves : Earlier x (joined o left right)
      halves =
          let p = q.catalogued.kept.sized.earlier x (rw (conditions_counted k t) q.given) in
          rw (sym e) at p

      pub left_falls : (y : ℕ) → x ≡ y → left < y
      left_falls y p = omega (arith, halves.0)

      pub right_falls : (y : ℕ) → x ≡ y → right < y
      right_falls y p = omega (arith, halves.1)

      pub left_given : left < k.conditions
      left_given = omega (arith, halves.0, q.given)

      pub right_given : right < k.conditions
      right_given = omega (arith, halves.1, q.given)

      abbrev ls : List Disjunct
      ls = disjuncts cs left

      abbrev rs : List Disjunct
      rs = disjuncts cs right

      all_of : disjuncts cs x ≡ combined o ls rs
      all_of = disjuncts_joined cs x o left right (sym e) halves.0 halves.1

      some_right : 0 < length rs
      some_right = omega (arith, (q.catalogued.kept.sized.allowed right (rw (conditions_counted k t) right_given)).some)

      module _ {known₁ : Known} (a : WorkedOut C cs f left known known₁) where
        -- the verdicts of the halves
        module _ {known₂ : Known} (b : WorkedOut C cs f right known₁ known₂) {vs ws : List Verdict} (vn : length vs ≡ length ls) (wn : length ws ≡ length rs)
            (vi : vs ≡ take (length ls) (row_of known₂ left)) (wi : ws ≡ take (length rs) (row_of known₂ right)) where
          left_is : (i : ℕ) → i < length ls → get_or vs i Unknown ≡ verdict_of (holds_now C f (get_or ls i []))
          left_is i h = rw vi (get_or-take (length ls) (row_of known₂ left) i Unknown h ∙ b.right.is left i (b.still left a.known) h)

          right_is : (i : ℕ) → i < length rs → get_or ws i Unknown ≡ verdict_of (holds_now C f (get_or rs i []))
          right_is i h = rw wi (get_or-take (length rs) (row_of known₂ right) i Unknown h ∙ b.right.is right i b.known h)

          joined_works : length known₂.disjuncts ≡ 256 → (row : List Verdict) → ((i : ℕ) → i < length (disjuncts cs x) → get_or row i Unknown ≡ verdict_of (holds_now C f (get_or (disjuncts cs x) i [])))
              → WorkedOut C cs f x known (record known₂ { disjuncts = set known₂.disjuncts x row })
          joined_works low row g = works_then a (works_then b (filled_works row (omega (arith, place_there)) x_allowed b.right g))

          module _ (z : o ≡ and) where
            and_all : disjuncts cs x ≡ combined and ls rs
            and_all = rw z at all_of

            and_count : length (disjuncts cs x) ≡ length ls * length rs
            and_count = rw and_all (length_and ls rs)

            -- there is room in a row
            pub and_room : length vs * length ws ≤ 64
            and_room = rw (vn, wn) (omega (arith, and_count, x_allowed.most))

            pair_works : {row : List Verdict} → Pairs vs ws row → (i j : ℕ) → i < length ls → j < length rs
                → get_or row (i * length rs + j) Unknown ≡ verdict_of (holds_now C f (get_or ls i [] ++ get_or rs j []))
            unfolding holds_now
            pair_works g i j h y =
                rw wn at (g.here i j (rw vn h) (rw wn y)) ∙ rw (left_is i h, right_is j y)
                (verdict_both (holds_now C f (get_or ls i [])) (holds_now C f (get_or rs j [])) ∙ ap verdict_of (sym (all_both (λ d. any f (matching C d)) (get_or ls i []) (get_or rs j []))))

            pub and_works : length known₂.disjuncts ≡ 256 → (row : List Verdict) → Pairs vs ws row → WorkedOut C cs f x known (record known₂ { disjuncts = set known₂.disjuncts x row })
            and_works low row g = joined_works low row here
              where
                here : (i : ℕ) → i < length (disjuncts cs x) → get_or row i Unknown ≡ verdict_of (holds_now C f (get_or (disjuncts cs x) i []))
                here i h =
                    let there : i < length ls * length rs = rw and_count at h in
                    let split : i / length rs * length rs + i % length rs ≡ i = div-add-mod' i (length rs) in
                    let it_is = rw split at (pair_works g (i / length rs) (i % length rs) ((div-lt_iff_lt-mul some_right).1 there) (mod-lt i some_right)) in
                    let at : get_or (disjuncts cs x) i [] ≡ get_or ls (i / length rs) [] ++ get_or rs (i % length rs) [] = rw and_all (and_at ls rs i there) in
                    rw at it_is

          module _ (z : o ≡ or) where
            or_all : disjuncts cs x ≡ combined or ls rs
            or_all = rw z at all_of

            or_count : length (disjuncts cs x) ≡ length ls + length rs
            or_count = rw or_all (length_or ls rs)

            pub or_room : length vs + length ws ≤ 64
            or_room = omega (arith, or_count, x_allowed.most)

            pub or_works : length known₂.disjuncts ≡ 256 → (row : List Verdict) → Either vs ws row → WorkedOut C cs f x known (record known₂ { disjuncts = set known₂.disjuncts x row })
            or_works low row g = joined_works low row here
              where
                here : (i : ℕ) → i < length (disjuncts cs x) → get_or row i Unknown ≡ verdict_of (holds_now C f (get_or (disjuncts cs x) i []))
                here i h =
                    elim (dec_lt i (length ls)) [
                      | yes y ↦ rw (or_all, or_left ls rs i y) (g.ahead i (rw vn y) ∙ left_is i y)
                      | no y ↦
                          let e : length vs + (i - length ls) ≡ i = omega arith in
                          let past : length ls ≤ i = omega arith in
                          let less : i - length ls < length rs = omega (arith, or_count) in
                          rw (or_all, or_right ls rs i past) ((rw e at (g.behind (i - length ls) (rw wn less))) ∙ right_is (i - length ls) less)
                    ]

-- ---- a flag for each disjunct

-- those of the first i verdicts
pub record FlagsSoFar (row : List Verdict) (i : ℕ) (flags : List Bool) : Type 0 where
  pub count : length flags ≡ 64
  pub flagged : (j : ℕ) → j < i → get_or flags j false ≡ says_holds (get_or row j Unknown)

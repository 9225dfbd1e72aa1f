-- A condition by its halves: what is asked of them, and what it tells.
use mathlib.Core.Path.{◌≡◌, refl, sym}
use mathlib.Core.Bool.{Bool}
use mathlib.Core.List.{List}
use Prim.Native.Nat.{ℕ, ◌<◌}
use native.Mathlib.Omega.{arith}
use lib.ListN.{length, get_or}
use Rattle.rules.specs.Catalogue.{Catalogue, Operator, and, or, joined, no_condition}
use Rattle.rules.specs.Catalogue as rules
use Rattle.rules.specs.Conditions.{combined, disjuncts}
use Rattle.rules.proofs.DisjunctLaws.{disjuncts_leaf, disjuncts_joined}
use Rattle.tables.specs.declared.Counts.{Counts}
use Rattle.tables.specs.Tables.{tables}
use Rattle.tables.proofs.Laws.{conditions_counted}
use Rattle.conditions.specs.Sizes.{Earlier}
use Rattle.cache.specs.Areas.{catalogue}
use Rattle.cache.proofs.Laws.{ranges_held, conditions_held, conditions_same}
use Rattle.index.specs.Catalogued.{Catalogued}
use Rattle.blocking.specs.declared.Verdict.{Verdict}
use Rattle.blocking.specs.declared.Known.{Known}
use Rattle.blocking.specs.declared.Blocking.{Blocking}
use Rattle.blocking.specs.Blocking.{Says, RangeJudged, Judged, KeptVerdict, of_or}
use Rattle.blocking.proofs.Barring.{barred_leaf, barred_or, barred_left, barred_right}
use Rattle.blocking.proofs.Verdicts.{says_more, grows_then, judged_kept}

-- ---- a condition that holds

says_holds : {c : Catalogue} {f : ℕ → Bool} {s : Blocking} {x : ℕ} {a : Verdict} → a ≡ Verdict.Holds → Says c f s x a
says_holds e = record { fails = λ n. absurd (n e); barred = λ z. cc }

module _ {c : Catalogue} {f : ℕ → Bool} {s : Blocking} (x l r : ℕ) {a : Verdict} where
  -- ---- an `and`, by either half

  says_left : disjuncts c.conditions x ≡ combined and (disjuncts c.conditions l) (disjuncts c.conditions r) → Says c f s l a → Says c f s x a
  says_left e y = record { fails = λ n. barred_left x l r e (y.fails n); barred = λ z. barred_left x l r e (y.barred z) }

  says_right : disjuncts c.conditions x ≡ combined and (disjuncts c.conditions l) (disjuncts c.conditions r) → Says c f s r a → Says c f s x a
  says_right e y = record { fails = λ n. barred_right x l r e (y.fails n); barred = λ z. barred_right x l r e (y.barred z) }

  -- ---- an `or`, by both

  says_both : (b : Verdict) → disjuncts c.conditions x ≡ combined or (disjuncts c.conditions l) (disjuncts c.conditions r) → (a ≡ Verdict.Holds → ⊥) → Says c f s l a → Says c f s r b
      → Says c f s x (of_or a b)
  says_both Verdict.Barred e n y z = record { fails = λ _. barred_or x l r e (y.fails n) (z.fails (λ i. cc)); barred = λ i. barred_or x l r e (y.barred i) (z.barred refl) }
  says_both Verdict.Unasked e n y z = record { fails = λ i. barred_or x l r e (y.fails n) (z.fails i); barred = λ i. cc }
  says_both Verdict.Holds e n y z = record { fails = λ i. barred_or x l r e (y.fails n) (z.fails i); barred = λ i. cc }
  says_both Verdict.Fails e n y z = record { fails = λ i. barred_or x l r e (y.fails n) (z.fails i); barred = λ i. cc }

-- ---- condition x

module _ (k : Counts) (m u t : List ℕ) (q : Catalogued k m u t) {x : ℕ} (g : x < k.conditions) where
  abbrev C : Catalogue
  C = catalogue k m u t

  -- a leaf
  module _ {r : ℕ} (e : rules.leaf r ≡ get_or (tables k t).conditions x no_condition) where
    leaf_row : get_or C.conditions x no_condition ≡ rules.leaf r
    leaf_row = rw (conditions_same k m u t) (sym e)

    pub leaf_range : r < k.ranges
    leaf_range =
        let p = q.formed.conditions x (rw (conditions_held k m u t) g) in
        let i : r < length C.ranges = rw leaf_row at p in
        rw (ranges_held k m u t) at i

    pub leaf_judged : {f : ℕ → Bool} {v : Verdict} {vs vs₁ : Known} {a a₁ : Blocking} → RangeJudged C f r v vs a vs₁ a₁ → Judged C f x v vs a vs₁ a₁
    leaf_judged d =
        let p = disjuncts_leaf C.conditions x r leaf_row in
        record {
          grows = d.grows;
          says = λ h. let y = d.says h in record { fails = λ i. barred_leaf x r p (y.fails i); barred = λ i. barred_leaf x r p (y.barred i) };
        }

  -- a joined condition
  module _ {o : Operator} {left right : ℕ} (e : joined o left right ≡ get_or (tables k t).conditions x no_condition) where
    halves : Earlier x (joined o left right)
    halves = let p = q.kept.sized.earlier x (rw (conditions_counted k t) g) in rw (sym e) at p

    pub left_falls : (y : ℕ) → x ≡ y → left < y
    left_falls y p = omega (arith, halves.0)

    pub right_falls : (y : ℕ) → x ≡ y → right < y
    right_falls y p = omega (arith, halves.1)

    pub left_there : left < k.conditions
    left_there = omega (arith, halves.0)

    pub right_there : right < k.conditions
    right_there = omega (arith, halves.1)

    all_of : disjuncts C.conditions x ≡ combined o (disjuncts C.conditions left) (disjuncts C.conditions right)
    all_of = disjuncts_joined C.conditions x o left right (rw (conditions_same k m u t) (sym e)) halves.0 halves.1

    module _ {f : ℕ → Bool} {first : Verdict} {vs vs₁ : Known} {a a₁ : Blocking} (d : Judged C f left first vs a vs₁ a₁) where
      -- the left half tells
      module _ {v : Verdict} {vs' : Known} (n : v ≡ first) (j : KeptVerdict x first vs₁ vs') where
        pub and_left : o ≡ and → Judged C f x v vs a vs' a₁
        and_left z = rw (n, j.is) (judged_kept j.inside (record { grows = d.grows; says = λ y. says_left x left right (rw z at all_of) (d.says y) }))

        pub or_left : first ≡ Verdict.Holds → Judged C f x v vs a vs' a₁
        or_left z = rw (n, j.is) (judged_kept j.inside (record { grows = d.grows; says = λ y. says_holds z }))

      -- both do
      module _ {second : Verdict} {vs₂ : Known} {a₂ : Blocking} (d₂ : Judged C f right second vs₁ a₁ vs₂ a₂) where
        pub and_both : {v : Verdict} {vs' : Known} → v ≡ second → KeptVerdict x second vs₂ vs' → o ≡ and → Judged C f x v vs a vs' a₂
        and_both n j z =
            rw (n, j.is) (judged_kept j.inside (record {
              grows = grows_then d.grows d₂.grows;
              says = λ y. says_right x left right (rw z at all_of) (d₂.says (d.grows.keeps y));
            }))

        pub or_both : {v w : Verdict} {vs' : Known} → v ≡ w → KeptVerdict x w vs₂ vs' → w ≡ of_or first second → o ≡ or → (first ≡ Verdict.Holds → ⊥) → Judged C f x v vs a vs' a₂
        or_both n j i z h =
            rw (n, j.is, i) (judged_kept j.inside (record {
              grows = grows_then d.grows d₂.grows;
              says = λ y. says_both x left right second (rw z at all_of) h (says_more d₂.grows.still (d.says y)) (d₂.says (d.grows.keeps y));
            }))

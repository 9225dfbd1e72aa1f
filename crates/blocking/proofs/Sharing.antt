-- Ranges that each disjunct of a condition has: it has its halves' if it is an `and`. Where one of them is blocked no disjunct holds.
use mathlib.Core.Path.{◌≡◌, refl, sym}
use mathlib.Core.Bool.{Bool, true, false, false≢true}
use mathlib.Core.List.{List}
use Prim.Native.Nat.{ℕ, ◌<◌, ◌≤◌}
use native.Mathlib.Omega.{arith}
use lib.Dec.{eqb}
use lib.ListN.{get_or, set}
use borrow.Author.Tests.{eq-eqb}
use Rattle.std.specs.Prelude.{Option, Some, None}
use Rattle.rules.specs.Called.{◌∈◌}
use Rattle.rules.specs.Catalogue as rules
use Rattle.rules.specs.Catalogue.{Catalogue, Condition, and, joined, no_condition}
use Rattle.rules.specs.Conditions.{Disjunct, combined, disjuncts}
use Rattle.rules.specs.Opening.{holds_now}
use Rattle.rules.proofs.Bools.{by_cases}
use Rattle.rules.proofs.DisjunctLaws.{disjuncts_leaf, disjuncts_joined}
use Rattle.tables.specs.declared.Counts.{Counts}
use Rattle.tables.specs.Tables.{tables}
use Rattle.tables.proofs.Laws.{conditions_counted}
use Rattle.conditions.specs.Sizes.{Sized}
use Rattle.cache.specs.Areas.{catalogue}
use Rattle.cache.proofs.Laws.{conditions_same}
use Rattle.blocking.specs.declared.Listing.{Listing}
use Rattle.blocking.specs.declared.Blocking.{Blocking}
use Rattle.blocking.specs.Blocking.{Barred, range_blocked, Blocked, Blocks, Shares, shared_of, Listed, names_blocked, shared_bars, AskedBars}
use Rattle.blocking.proofs.Barring.{barred_leaf, barred_left, barred_right, barred_shared, barred_fails}
use Rattle.blocking.proofs.Blocked.{range_fails}
use Rattle.blocking.proofs.Lists.{shares_none, listed_put}

-- ---- what the disjuncts of condition x share

module _ (k : Counts) (t : List ℕ) where
  abbrev cs : List Condition
  cs = (tables k t).conditions

  pub noted_leaf : (x : ℕ) {r : ℕ} {l : Listing} → rules.leaf r ≡ get_or cs x no_condition → Listed cs l → r < 512 → Listed cs (record l { shared = set l.shared x (record { first = Some r; second = None }) })
  noted_leaf x {r} e y low = listed_put x (record { first = Some r; second = None }) (record { named = record { low = λ i q. let n : i ≡ r = cc in rw n low }; is = is }) (shares_none refl) y
    where
      is : (i : ℕ) → Some r ≡ Some i → Barred cs (eqb i) x
      is i q =
          let n : i ≡ r = cc in
          rw n (barred_leaf x r (disjuncts_leaf cs x r (sym e)) (eq-eqb r r refl))

  module _ {x left right : ℕ} (z : Sized (tables k t)) (g : x < k.conditions) (e : joined and left right ≡ get_or cs x no_condition) where
    halves : (left < x) × (right < x)
    halves = let p = z.earlier x (rw (conditions_counted k t) g) in rw (sym e) at p

    -- the halves have places
    module _ (laid : k.conditions ≤ 256) where
      pub left_low : left < 256
      left_low = omega (arith, halves.0)

      pub right_low : right < 256
      right_low = omega (arith, halves.1)

    all_of : disjuncts cs x ≡ combined and (disjuncts cs left) (disjuncts cs right)
    all_of = disjuncts_joined cs x and left right (sym e) halves.0 halves.1

    shares_left : {v : Option ℕ} → Shares cs left v → Shares cs x v
    shares_left h = record { named = h.named; is = λ r q. barred_left x left right all_of (h.is r q) }

    shares_right : {v : Option ℕ} → Shares cs right v → Shares cs x v
    shares_right h = record { named = h.named; is = λ r q. barred_right x left right all_of (h.is r q) }

    pub noted_and : {l : Listing} → Listed cs l → Listed cs (record l { shared = set l.shared x (record { first = (shared_of l left).first; second = (shared_of l right).first }) })
    noted_and {l} y =
        listed_put x (record { first = (shared_of l left).first; second = (shared_of l right).first }) (shares_left (y.first left)) (shares_right (y.first right)) y

-- ---- whether a blocked range is named

bars_out : (s : Blocking) (v : Option ℕ) → names_blocked s v ≡ true → (r : ℕ) × (v ≡ Some r) × (range_blocked s r ≡ true)
bars_out s None e = absurd (false≢true e)
bars_out s (Some r) e = (r, refl, e)

-- ---- condition x

module _ (k : Counts) (m u t : List ℕ) where
  abbrev C : Catalogue
  C = catalogue k m u t

  module _ {x : ℕ} {f : ℕ → Bool} where
    bars_fails : {v : Option ℕ} {s : Blocking} → Shares (tables k t).conditions x v → names_blocked s v ≡ true → Blocked C f s → (d : Disjunct) → d ∈ disjuncts C.conditions x → holds_now C f d ≡ false
    bars_fails {v} {s} y e h =
        let p = bars_out s v e in
        let q : Barred C.conditions (range_blocked s) x = rw (conditions_same k m u t) (barred_shared x p.0 (y.is p.0 p.1) p.2) in
        barred_fails C f (range_fails h) q

    module _ {l : Listing} {s : Blocking} (y : Listed (tables k t).conditions l) where
      -- one is
      pub shared_blocks : shared_bars l s x ≡ true → Blocks C f x true s s
      unfolding shared_bars
      shared_blocks e =
          record {
            none = λ _ h. by_cases (names_blocked s (shared_of l x).first) (λ q. bars_fails (y.first x) q h) (λ q. bars_fails (y.second x) (rw q at e) h);
            keeps = λ h. h;
          }

      module _ {a : Bool} {s₁ : Blocking} (d : AskedBars C f (shared_of l x).first a s s₁) where
        pub first_blocks : a ≡ true → Blocks C f x true s s₁
        first_blocks q = record { none = λ _ h. bars_fails (y.first x) (d.is q) (d.keeps h); keeps = d.keeps }

        pub second_blocks : {a₂ : Bool} {s₂ : Blocking} → AskedBars C f (shared_of l x).second a₂ s₁ s₂ → Blocks C f x a₂ s s₂
        second_blocks d₂ =
            record { none = λ q h. bars_fails (y.second x) (d₂.is q) (d₂.keeps (d.keeps h)); keeps = λ h. d₂.keeps (d.keeps h) }

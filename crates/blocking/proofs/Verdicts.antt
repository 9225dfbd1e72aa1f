-- Conditions and ranges are asked once: verdicts that are right stay so, and ranges that do not hold are blocked.
use mathlib.Core.Path.{◌≡◌, sym, ◌∙◌}
use mathlib.Core.Bool.{Bool, true, false, true≢false}
use Prim.Native.Nat.{ℕ, ◌<◌}
use lib.Dec.{eqb}
use lib.ListN.{length, set, replicate}
use lib.Seq.{get_or-set_same, get_or-set_other}
use borrow.Author.Tests.{eqb-true, eqb-false}
use Rattle.rules.specs.Lists.{any}
use Rattle.rules.specs.Catalogue.{Catalogue}
use Rattle.rules.specs.Candidates.{matching}
use Rattle.rules.proofs.Bools.{by_cases}
use Rattle.judging.proofs.Judging.{repeated}
use Rattle.blocking.specs.declared.Verdict.{Verdict}
use Rattle.blocking.specs.declared.Known.{Known}
use Rattle.blocking.specs.declared.Blocking.{Blocking}
use Rattle.blocking.specs.Blocking.{range_blocked, Blocked, RangeBars, fails, NothingAsked, RangeSays, Says, Right, Grows, RangeJudged, Judged}
use Rattle.blocking.proofs.Barring.{barred_more}
use Rattle.blocking.proofs.Blocked.{range_fails}

pub fails_in : (c : Catalogue) (f : ℕ → Bool) (r : ℕ) → any f (matching c r) ≡ false → fails c f r ≡ true
unfolding fails
fails_in c f r e = rw e

pub fails_out : (c : Catalogue) (f : ℕ → Bool) (r : ℕ) → fails c f r ≡ true → any f (matching c r) ≡ false
unfolding fails
fails_out c f r e = by_cases (any f (matching c r)) (λ q. absurd (true≢false (sym e ∙ rw q))) (λ q. q)

-- nothing was asked at the start
pub nothing_asked : NothingAsked (record { conditions = replicate 256 Verdict.Unasked; ranges = replicate 512 Verdict.Unasked })
nothing_asked = record { conditions = λ x. repeated 256 x Verdict.Unasked; ranges = λ r. repeated 512 r Verdict.Unasked }

module _ {c : Catalogue} {f : ℕ → Bool} where
  -- ---- what a verdict says where more ranges are blocked

  module _ {s s' : Blocking} (still : (r : ℕ) → range_blocked s r ≡ true → range_blocked s' r ≡ true) where
    range_says_more : {r : ℕ} {v : Verdict} → RangeSays c f s r v → RangeSays c f s' r v
    range_says_more {r} y = record { fails = y.fails; barred = λ e. still r (y.barred e) }

    pub says_more : {x : ℕ} {v : Verdict} → Says c f s x v → Says c f s' x v
    says_more y = record { fails = y.fails; barred = λ e. barred_more (range_blocked s') still (y.barred e) }

  -- ---- the verdicts

  -- nothing was asked
  pub right_none : {vs : Known} {s : Blocking} → NothingAsked vs → Blocked c f s → Right c f vs s
  right_none e h = record { flags = h; ranges = λ r n. absurd (n (e.ranges r)); conditions = λ x n. absurd (n (e.conditions x)) }

  -- more ranges are blocked
  right_more : {vs : Known} {s s' : Blocking} → ((r : ℕ) → range_blocked s r ≡ true → range_blocked s' r ≡ true) → Blocked c f s' → Right c f vs s → Right c f vs s'
  right_more still z h =
      record { flags = z; ranges = λ r n. range_says_more still (h.ranges r n); conditions = λ x n. says_more still (h.conditions x n) }

  module _ {vs : Known} {s : Blocking} (h : Right c f vs s) where
    -- v is kept of range r
    right_range : (r : ℕ) (v : Verdict) → r < length vs.ranges → RangeSays c f s r v → Right c f (record vs { ranges = set vs.ranges r v }) s
    right_range r v low y =
        record {
          flags = h.flags;
          ranges = λ i n. by_cases (eqb i r) (λ q. rw (eqb-true i r q, get_or-set_same vs.ranges r v Verdict.Unasked low) y)
              (λ q. let e = get_or-set_other vs.ranges r i v Verdict.Unasked (eqb-false i r q) in rw e (h.ranges i (λ o. n (e ∙ o))));
          conditions = h.conditions;
        }

    -- of condition x
    right_condition : (x : ℕ) (v : Verdict) → x < length vs.conditions → Says c f s x v → Right c f (record vs { conditions = set vs.conditions x v }) s
    right_condition x v low y =
        record {
          flags = h.flags;
          ranges = h.ranges;
          conditions = λ i n. by_cases (eqb i x) (λ q. rw (eqb-true i x q, get_or-set_same vs.conditions x v Verdict.Unasked low) y)
              (λ q. let e = get_or-set_other vs.conditions x i v Verdict.Unasked (eqb-false i x q) in rw e (h.conditions i (λ o. n (e ∙ o))));
        }

  -- ---- more is asked

  pub grows_same : {vs : Known} {s : Blocking} → Grows c f vs s vs s
  grows_same = record { still = λ r e. e; keeps = λ h. h }

  pub grows_then : {vs vs₁ vs₂ : Known} {s s₁ s₂ : Blocking} → Grows c f vs s vs₁ s₁ → Grows c f vs₁ s₁ vs₂ s₂ → Grows c f vs s vs₂ s₂
  grows_then p q = record { still = λ r e. q.still r (p.still r e); keeps = λ h. q.keeps (p.keeps h) }

  -- ---- range r

  module _ {r : ℕ} {vs : Known} {s : Blocking} where
    -- it is blocked
    pub range_before : {b : Bool} → b ≡ range_blocked s r → b ≡ true → RangeJudged c f r Verdict.Barred vs s vs s
    range_before q i = let e = sym q ∙ i in record { grows = grows_same; says = λ h. record { fails = λ _. fails_in c f r (range_fails h.flags r e); barred = λ _. e } }

    module _ {a q : Bool} {s₁ : Blocking} (e : a ≡ any f (matching c r)) (o : a ≡ false) (d : RangeBars c r q s s₁) where
      keeps : Right c f vs s → Right c f vs s₁
      keeps h = right_more d.still (d.keeps f (sym e ∙ o) h.flags) h

      -- it is blocked now
      pub range_barred : q ≡ true → RangeJudged c f r Verdict.Barred vs s vs s₁
      range_barred i =
          record {
            grows = record { still = d.still; keeps = keeps };
            says = λ h. record { fails = λ _. fails_in c f r (sym e ∙ o); barred = λ _. d.is i };
          }

      -- its parts are too many
      pub range_unbarred : r < length vs.ranges → RangeJudged c f r Verdict.Fails vs s (record vs { ranges = set vs.ranges r Verdict.Fails }) s₁
      range_unbarred low = record { grows = record { still = d.still; keeps = λ h. right_range (keeps h) r Verdict.Fails low says }; says = λ _. says }
        where
          says : RangeSays c f s₁ r Verdict.Fails
          says = record { fails = λ _. fails_in c f r (sym e ∙ o); barred = λ z. cc }

  -- ---- condition x

  module _ {x : ℕ} {vs : Known} {s : Blocking} where
    -- its verdict is kept
    pub judged_kept : {v : Verdict} {vs₁ : Known} {s₁ : Blocking} → x < length vs₁.conditions → Judged c f x v vs s vs₁ s₁
        → Judged c f x v vs s (record vs₁ { conditions = set vs₁.conditions x v }) s₁
    judged_kept {v} low d =
        record {
          grows = record { still = d.grows.still; keeps = λ h. right_condition (d.grows.keeps h) x v low (d.says h) };
          says = d.says;
        }

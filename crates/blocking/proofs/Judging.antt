-- No disjunct of a condition holds: it is blocked, or each disjunct has a blocked range, or its verdict says so.
use mathlib.Core.Path.{◌≡◌}
use mathlib.Core.Bool.{Bool, true}
use mathlib.Core.List.{List}
use Prim.Native.Nat.{ℕ, ◌<◌}
use lib.ListN.{set}
use Rattle.rules.specs.Catalogue.{Catalogue}
use Rattle.tables.specs.declared.Counts.{Counts}
use Rattle.cache.specs.Areas.{catalogue}
use Rattle.cache.proofs.Laws.{conditions_held}
use Rattle.blocking.specs.declared.Verdict.{Verdict}
use Rattle.blocking.specs.declared.Known.{Known}
use Rattle.blocking.specs.declared.Blocking.{Blocking}
use Rattle.blocking.specs.Blocking.{Barred, all_watched, is_blocked, range_blocked, Blocked, Blocks, NothingAsked, Right, Judged, EachBars}
use Rattle.blocking.proofs.Barring.{barred_more, barred_fails}
use Rattle.blocking.proofs.Blocked.{blocked_fails, blocked_put, range_fails}
use Rattle.blocking.proofs.Verdicts.{fails_out, right_none}

module _ (k : Counts) (m u t : List ℕ) where
  abbrev C : Catalogue
  C = catalogue k m u t

  module _ {x : ℕ} {f : ℕ → Bool} where
    -- it is blocked
    pub blocks_known : {s : Blocking} → is_blocked s x ≡ true → Blocks C f x true s s
    blocks_known e = record { none = λ _ h. blocked_fails h x e; keeps = λ h. h }

    -- each disjunct of it has a blocked range: it is blocked
    put : {s : Blocking} → x < k.conditions → Blocked C f s → Barred C.conditions (range_blocked s) x → Blocked C f (record s { conditions = set s.conditions x true })
    put {s} g h d = blocked_put h x true (rw (conditions_held k m u t) g) (λ _. barred_more (all_watched C s.watched) (λ r e. (h.ranges r e).1) d)

    module _ {vs vs₁ : Known} {s s₁ : Blocking} (z : NothingAsked vs) {a : Bool} (d : EachBars C f x a vs s vs₁ s₁) where
      -- by its list
      first : Blocked C f s → Right C f vs₁ s₁
      first h = d.grows.keeps (right_none z h)

      pub blocks_barred : x < k.conditions → a ≡ true → Blocks C f x true s (record s₁ { conditions = set s₁.conditions x true })
      blocks_barred g q =
          record {
            none = λ _ h. barred_fails C f (range_fails (first h).flags) (d.barred q (right_none z h));
            keeps = λ h. put g (first h).flags (d.barred q (right_none z h));
          }

      -- by its verdict
      module _ {v : Verdict} {vs₂ : Known} {s₂ : Blocking} (j : Judged C f x v vs₁ s₁ vs₂ s₂) where
        second : Blocked C f s → Right C f vs₂ s₂
        second h = j.grows.keeps (first h)

        pub blocks_judged : x < k.conditions → v ≡ Verdict.Barred → Blocks C f x true s (record s₂ { conditions = set s₂.conditions x true })
        blocks_judged g q =
            record {
              none = λ _ h. barred_fails C f (fails_out C f) ((j.says (first h)).fails (λ i. cc));
              keeps = λ h. put g (second h).flags ((j.says (first h)).barred q);
            }

        -- which may say that it holds
        pub blocks_open : {b : Bool} → (b ≡ true → v ≡ Verdict.Holds → ⊥) → Blocks C f x b s s₂
        blocks_open n =
            record {
              none = λ i h. barred_fails C f (fails_out C f) ((j.says (first h)).fails (n i));
              keeps = λ h. (second h).flags;
            }

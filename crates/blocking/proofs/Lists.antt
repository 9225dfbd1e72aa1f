-- The disjuncts of a condition are listed, and what the disjuncts of each share.
use mathlib.Core.Path.{◌≡◌, refl, ◌∙◌}
use mathlib.Core.List.{List, []}
use Prim.Native.Nat.{ℕ, ◌+◌, ◌<◌, ◌≤◌}
use native.Mathlib.Omega.{arith}
use native.Mathlib.Decide.{dec_lt}
use lib.Dec.{eqb}
use lib.ListN.{length, get_or, set, replicate, length-set}
use lib.Seq.{set_out, get_or-set_same, get_or-set_other}
use borrow.Author.Tests.{eqb-true, eqb-false}
use Rattle.std.specs.Prelude.{Option, Some, None}
use Rattle.rules.specs.Catalogue.{Condition}
use Rattle.rules.specs.Conditions.{disjuncts}
use Rattle.rules.proofs.Bools.{by_cases}
use Rattle.conditions.specs.declared.Disjunct as code
use Rattle.conditions.specs.Sizes.{Counted}
use Rattle.conditions.specs.Disjuncts.{Carries}
use Rattle.judging.proofs.Judging.{repeated}
use Rattle.blocking.specs.declared.Shared.{Shared}
use Rattle.blocking.specs.declared.Streak.{Streak}
use Rattle.blocking.specs.declared.Listing.{Listing}
use Rattle.blocking.specs.Blocking.{no_disjunct, Stands, AllStand, Shares, shared_of, Listed, NothingListed}

-- ---- nothing is listed at the start

pub nothing_listed : {ds : List code.Disjunct} → NothingListed (record { listed = None; disjuncts = ds; judged = None; shared = replicate 256 (record { first = None; second = None }) })
nothing_listed = record { listed = refl; first = λ x. rw (repeated 256 x nothing) refl; second = λ x. rw (repeated 256 x nothing) refl }
  where
    nothing : Shared
    nothing = record { first = None; second = None }

pub shares_none : {cs : List Condition} {x : ℕ} {v : Option ℕ} → v ≡ None → Shares cs x v
shares_none e = record { named = record { low = λ r q. cc }; is = λ r q. cc }

pub listed_none : {cs : List Condition} {l : Listing} → NothingListed l → Listed cs l
listed_none n = record { is = λ x q. let e = n.listed in cc; first = λ x. shares_none (n.first x); second = λ x. shares_none (n.second x) }

-- ---- the disjuncts of condition x

-- the loop at disjunct i
pub record ListedUpTo (cs : List Condition) (x i : ℕ) (l : Listing) : Type 0 where
  pub room : length l.disjuncts ≡ 64
  pub none : l.listed ≡ None
  pub each : (h : ℕ) → h < i → Stands cs l x h
  pub first : (y : ℕ) → Shares cs y (shared_of l y).first
  pub second : (y : ℕ) → Shares cs y (shared_of l y).second

pub listing_start : {cs : List Condition} {x : ℕ} {l : Listing} → length l.disjuncts ≡ 64 → Listed cs l → ListedUpTo cs x 0 (record l { listed = None })
listing_start n y = record { room = n; none = refl; each = λ h e. let no : ⊥ = omega arith in absurd no; first = y.first; second = y.second }

module _ {cs : List Condition} {x i : ℕ} {l : Listing} (y : ListedUpTo cs x i l) where
  pub listing_step : {d : code.Disjunct} → i < 64 → Carries d (get_or (disjuncts cs x) i []) → ListedUpTo cs x (i + 1) (record l { disjuncts = set l.disjuncts i d })
  listing_step {d} low c =
      record {
        room = length-set l.disjuncts i d ∙ y.room;
        none = y.none;
        each = λ h e. by_cases (eqb h i) (λ q. record { is = rw (eqb-true h i q, get_or-set_same l.disjuncts i d no_disjunct (omega (arith, y.room))) c })
            (λ q. record { is = rw (get_or-set_other l.disjuncts i h d no_disjunct (eqb-false h i q)) ((y.each h (omega (arith, eqb-false h i q))).is) });
        first = y.first;
        second = y.second;
      }

  pub listing_end : (n : ℕ) → Counted cs x n → n ≤ i → Listed cs (record l { listed = Some x })
  listing_end n c e = record { is = λ z q. let w : z ≡ x = cc in rw w all; first = y.first; second = y.second }
    where
      all : AllStand cs (record l { listed = Some x }) x
      all = record { few = omega (arith, c.is, c.most); each = λ h b. record { is = (y.each h (omega (arith, c.is))).is } }

-- ---- what is shared

-- other things change than what is listed and shared
pub listed_judged : {cs : List Condition} {l : Listing} → Listed cs l → (j : Option Streak) → Listed cs (record l { judged = j })
listed_judged y j = record { is = λ x e. let a = y.is x e in record { few = a.few; each = λ i h. record { is = (a.each i h).is } }; first = y.first; second = y.second }

-- v is put for condition x
pub listed_put : {cs : List Condition} {l : Listing} (x : ℕ) (v : Shared) → Shares cs x v.first → Shares cs x v.second → Listed cs l → Listed cs (record l { shared = set l.shared x v })
listed_put {cs} {l} x v p q y =
    record {
      is = λ z e. let a = y.is z e in record { few = a.few; each = λ i h. record { is = (a.each i h).is } };
      first = λ z. (put z).0;
      second = λ z. (put z).1;
    }
  where
    none : Shared
    none = record { first = None; second = None }

    put : (z : ℕ) → Shares cs z (get_or (set l.shared x v) z none).first × Shares cs z (get_or (set l.shared x v) z none).second
    put z =
        by_cases (eqb z x)
        (λ e. elim (dec_lt x (length l.shared)) [
          | yes h ↦ rw (eqb-true z x e, get_or-set_same l.shared x v none h) (p, q)
          | no h ↦ rw (set_out l.shared x v (omega arith)) (y.first z, y.second z)
        ])
        (λ e. rw (get_or-set_other l.shared x z v none (eqb-false z x e)) (y.first z, y.second z))

-- Blocked conditions and ranges: such a range does not hold, nor does a disjunct of such a condition. A range that does not hold is blocked where its matching parts are watched.
use mathlib.Core.Path.{◌≡◌, refl, sym, ◌∙◌}
use mathlib.Core.Logic.{◌⊎◌, inl, inr, ⊎_elim}
use mathlib.Core.Bool.{Bool, true, false, true≢false, false≢true}
use mathlib.Core.List.{List}
use Prim.Native.Nat.{ℕ, ◌<◌}
use native.Mathlib.Omega.{arith}
use native.Mathlib.Decide.{dec_lt}
use lib.Dec.{eqb}
use lib.ListN.{length, get_or, set, replicate}
use lib.Seq.{set_out, get_or-set_same, get_or-set_other}
use borrow.Author.Tests.{eqb-true, eqb-false}
use Rattle.rules.specs.Lists.{any}
use Rattle.rules.specs.Called.{◌∈◌}
use Rattle.rules.specs.Catalogue.{Catalogue}
use Rattle.rules.specs.Candidates.{matching}
use Rattle.rules.specs.Conditions.{Disjunct, disjuncts}
use Rattle.rules.specs.Opening.{holds_now}
use Rattle.rules.proofs.Bools.{by_cases}
use Rattle.rules.proofs.Member.{all_out, none_in_law}
use Rattle.tables.specs.declared.Counts.{Counts}
use Rattle.cache.specs.Areas.{catalogue}
use Rattle.cache.proofs.Laws.{ranges_held}
use Rattle.entries.specs.Deferred.{is_held}
use Rattle.entries.proofs.Places.{is_free_law}
use Rattle.judging.proofs.Judging.{repeated, zeros}
use Rattle.blocking.specs.declared.Barrier.{Barrier}
use Rattle.blocking.specs.declared.Blocking.{Blocking}
use Rattle.blocking.specs.Blocking.{Barred, watched_for, all_watched, Unmet, PartsWatched, is_blocked, blocks_range, range_blocked, NothingBlocked, Blocked, RangeBars}
use Rattle.blocking.proofs.Barring.{barred_more, barred_fails}
use Rattle.blocking.proofs.Watching.{for_held, all_more}

-- ---- what stands at a range

open_blocks : (b : Barrier) → b ≡ Barrier.Open → blocks_range b ≡ false
open_blocks b e = rw e refl

-- ranges are blocked as before but for one that was open
range_more : (s : Blocking) (r : ℕ) (b : Barrier) → get_or s.ranges r Barrier.Open ≡ Barrier.Open → (i : ℕ) → range_blocked s i ≡ true
    → range_blocked (record s { ranges = set s.ranges r b }) i ≡ true
unfolding range_blocked
range_more s r b z i e = rw (get_or-set_other s.ranges r i b Barrier.Open (λ p. false≢true (sym (open_blocks _ (rw p z)) ∙ e))) e

-- one that is blocked once b is put at range r was so, or it is r, by b
range_cases : (s : Blocking) (r : ℕ) (b : Barrier) (i : ℕ) → range_blocked (record s { ranges = set s.ranges r b }) i ≡ true
    → (range_blocked s i ≡ true) ⊎ ((i ≡ r) × (blocks_range b ≡ true))
unfolding range_blocked
range_cases s r b i e =
    by_cases (eqb i r) (λ n. elim (dec_lt r (length s.ranges)) [
      | yes h ↦ inr (eqb-true i r n, there (eqb-true i r n) h)
      | no h ↦ inl (rw (set_out s.ranges r b (omega arith)) at e)
    ])
    (λ n. inl (rw (get_or-set_other s.ranges r i b Barrier.Open (eqb-false i r n)) at e))
  where
    there : i ≡ r → r < length s.ranges → blocks_range b ≡ true
    there q h = rw (q, get_or-set_same s.ranges r b Barrier.Open h) at e

-- one that is blocked once v is put at condition x was so, or it is x, by v
condition_cases : (s : Blocking) (x : ℕ) (v : Bool) (y : ℕ) → is_blocked (record s { conditions = set s.conditions x v }) y ≡ true → (is_blocked s y ≡ true) ⊎ ((y ≡ x) × (v ≡ true))
unfolding is_blocked
condition_cases s x v y e =
    by_cases (eqb y x) (λ n. elim (dec_lt x (length s.conditions)) [
      | yes h ↦ inr (eqb-true y x n, there (eqb-true y x n) h)
      | no h ↦ inl (rw (set_out s.conditions x v (omega arith)) at e)
    ])
    (λ n. inl (rw (get_or-set_other s.conditions x y v false (eqb-false y x n)) at e))
  where
    there : y ≡ x → x < length s.conditions → v ≡ true
    there q h = rw (q, get_or-set_same s.conditions x v false h) at e

-- ---- what is blocked

-- nothing is blocked or watched at the start
pub nothing_blocked : NothingBlocked (record { conditions = replicate 256 false; ranges = replicate 512 Barrier.Open; watched = replicate 1024 0 })
nothing_blocked = record {
  conditions = λ x. unfold is_blocked in repeated 256 x false;
  ranges = λ r. unfold range_blocked in open_blocks _ (repeated 512 r Barrier.Open);
  watched = λ p. unfold is_held in rw (is_free_law (replicate 1024 0) p (zeros 1024 p));
}

pub blocked_none : {c : Catalogue} {true? : ℕ → Bool} {s : Blocking} → NothingBlocked s → Blocked c true? s
blocked_none n =
    record {
      given = λ x h. absurd (true≢false (sym h ∙ n.conditions x));
      barred = λ x h. absurd (true≢false (sym h ∙ n.conditions x));
      ranges = λ r h. absurd (true≢false (sym h ∙ n.ranges r));
      unmet = record { none = λ p h. absurd (true≢false (sym h ∙ n.watched p)) };
    }

module _ {c : Catalogue} {true? : ℕ → Bool} {s : Blocking} (h : Blocked c true? s) where
  -- a range whose matching parts are watched does not hold
  watched_fails : (r : ℕ) → all_watched c s.watched r ≡ true → any true? (matching c r) ≡ false
  unfolding all_watched
  watched_fails r e = none_in_law true? (matching c r) (λ p m. h.unmet.none p (for_held s.watched r p (all_out (watched_for s.watched r) (matching c r) e p m)))

  pub blocked_fails : (x : ℕ) → is_blocked s x ≡ true → (d : Disjunct) → d ∈ disjuncts c.conditions x → holds_now c true? d ≡ false
  blocked_fails x e = barred_fails c true? watched_fails (h.barred x e)

  -- where no watched part is decided true besides
  pub blocked_still : {now? : ℕ → Bool} → ((p : ℕ) → is_held s.watched p ≡ true → true? p ≡ false → now? p ≡ false) → Blocked c now? s
  blocked_still f = record { given = h.given; barred = h.barred; ranges = h.ranges; unmet = record { none = λ p e. f p e (h.unmet.none p e) } }

  -- where more is watched
  pub blocked_more : {watched' : List ℕ} → ((i p : ℕ) → watched_for s.watched i p ≡ true → watched_for watched' i p ≡ true) → Unmet true? watched'
      → Blocked c true? (record s { watched = watched' })
  blocked_more {watched'} t o =
      record {
        given = λ x e. h.given x (unfold is_blocked in e);
        barred = λ x e. barred_more (all_watched c watched') (all_more c s.watched watched' t) (h.barred x (unfold is_blocked in e));
        ranges = λ r e. let q = h.ranges r (unfold range_blocked in e) in (q.0, all_more c s.watched watched' t r q.1);
        unmet = o;
      }

  -- v is put at condition x
  pub blocked_put : (x : ℕ) (v : Bool) → x < length c.conditions → (v ≡ true → Barred c.conditions (all_watched c s.watched) x) → Blocked c true? (record s { conditions = set s.conditions x v })
  blocked_put x v g q =
      record {
        given = λ y i. ⊎_elim (h.given y) (λ z. rw z.0 g) (condition_cases s x v y i);
        barred = λ y i. ⊎_elim (h.barred y) (λ z. rw z.0 (q z.1)) (condition_cases s x v y i);
        ranges = λ r i. h.ranges r (unfold range_blocked in i);
        unmet = h.unmet;
      }

  -- b is put at range r
  blocked_range : (r : ℕ) (b : Barrier) → (blocks_range b ≡ true → (r < length c.ranges) × (all_watched c s.watched r ≡ true)) → Blocked c true? (record s { ranges = set s.ranges r b })
  blocked_range r b q =
      record {
        given = λ y i. h.given y (unfold is_blocked in i);
        barred = λ y i. h.barred y (unfold is_blocked in i);
        ranges = λ j i. ⊎_elim (h.ranges j) (λ z. rw z.0 (q z.1)) (range_cases s r b j i);
        unmet = h.unmet;
      }

  -- a blocked range does not hold
  pub range_fails : (r : ℕ) → range_blocked s r ≡ true → any true? (matching c r) ≡ false
  range_fails r e = watched_fails r (h.ranges r e).1

-- ---- a range that does not hold

module _ {c : Catalogue} {r : ℕ} {s : Blocking} where
  -- it was blocked
  pub bars_before : get_or s.ranges r Barrier.Open ≡ Barrier.Blocked → RangeBars c r true s s
  bars_before z = record { still = λ i e. e; is = λ _. unfold range_blocked in rw z refl; keeps = λ f n h. h }

  module _ {b : Bool} {w : List ℕ} (z : get_or s.ranges r Barrier.Open ≡ Barrier.Open) (d : PartsWatched c r b s.watched w) where
    more : {f : ℕ → Bool} → any f (matching c r) ≡ false → Blocked c f s → Blocked c f (record s { watched = w })
    more {f} n h = blocked_more h d.still (d.unmet f n h.unmet)

    -- its parts are too many
    pub bars_not : RangeBars c r false s (record s { ranges = set s.ranges r Barrier.TooWide; watched = w })
    bars_not = record { still = λ i e. unfold range_blocked in range_more s r Barrier.TooWide z i e; is = λ e. absurd (false≢true e); keeps = λ f n h. blocked_range (more n h) r Barrier.TooWide (λ e. absurd (false≢true e)) }

    bars : b ≡ true → r < length c.ranges → r < length s.ranges → RangeBars c r true s (record s { ranges = set s.ranges r Barrier.Blocked; watched = w })
    bars n g low =
        record {
          still = λ i e. unfold range_blocked in range_more s r Barrier.Blocked z i e;
          is = λ _. unfold range_blocked in rw (get_or-set_same s.ranges r Barrier.Blocked Barrier.Open low) refl;
          keeps = λ f o h. blocked_range (more o h) r Barrier.Blocked (λ _. (g, d.all n));
        }

pub bars_now : (k : Counts) (m u t : List ℕ) → {r : ℕ} {b : Bool} {s : Blocking} {w : List ℕ} → r < k.ranges → r < length s.ranges → get_or s.ranges r Barrier.Open ≡ Barrier.Open
    → PartsWatched (catalogue k m u t) r b s.watched w → b ≡ true → RangeBars (catalogue k m u t) r true s (record s { ranges = set s.ranges r Barrier.Blocked; watched = w })
bars_now k m u t {r} g low z d n = bars z d n (rw (ranges_held k m u t) g) low

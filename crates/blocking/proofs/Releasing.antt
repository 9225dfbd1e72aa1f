-- A part is decided true: no condition stays blocked, and no range that it is a member of.
use mathlib.Core.Path.{◌≡◌, refl, sym, ◌∙◌}
use mathlib.Core.Bool.{Bool, true, false, true≢false, false≢true}
use mathlib.Core.List.{List}
use Prim.Native.Nat.{ℕ, ◌+◌, ◌-◌, ◌%◌, ◌<◌, ◌≤◌}
use native.Mathlib.Omega.{arith}
use native.Mathlib.Decide.{dec_lt}
use lib.Dec.{eqb}
use lib.Bits.{bit_and, and_le_l}
use lib.Count.{count_trailing_zeros}
use lib.ListN.{length, get_or, set, replicate, get_or-eq_default}
use lib.Seq.{set_out, get_or-set_same, get_or-set_other}
use borrow.Author.Tests.{eqb-true, eqb-false}
use Rattle.rules.specs.AtMostOne.{bit}
use Rattle.rules.specs.Called.{◌∈◌}
use Rattle.rules.specs.Candidates.{matching}
use Rattle.rules.proofs.Bools.{by_cases}
use Rattle.rules.proofs.Member.{all_out, all_in, contrary}
use Rattle.tables.specs.declared.Counts.{Counts}
use Rattle.marks.specs.Marks.{is_marked}
use Rattle.marks.proofs.Bits.{bit_none}
use Rattle.cache.specs.Areas.{catalogue}
use Rattle.cache.proofs.Laws.{ranges_held}
use Rattle.entries.specs.Deferred.{is_held}
use Rattle.judging.proofs.Judging.{repeated}
use Rattle.blocking.specs.declared.Barrier.{Barrier}
use Rattle.blocking.specs.declared.Blocking.{Blocking}
use Rattle.blocking.specs.Blocking.{watched_for, all_watched, is_blocked, blocks_range, range_blocked, Blocked, Fewer, ReleasesRange, ReleasesClass, ReleasesWatched, Releases}
use Rattle.blocking.proofs.Classes.{lowest_gone}
use Rattle.blocking.proofs.Watching.{held_none, held_other, held_gone, for_other, match_marked}
use Rattle.blocking.proofs.Blocked.{blocked_still}

-- ---- one range less

fewer_same : {s : Blocking} → Fewer s s
fewer_same = record { conditions = refl; before = λ x e. e; watched = refl }

fewer_then : {a b c : Blocking} → Fewer a b → Fewer b c → Fewer a c
fewer_then p q = record { conditions = q.conditions ∙ p.conditions; before = λ x e. p.before x (q.before x e); watched = q.watched ∙ p.watched }

module _ (s : Blocking) (r : ℕ) where
  -- it is open
  gone : get_or (set s.ranges r Barrier.Open) r Barrier.Open ≡ Barrier.Open
  gone = elim (dec_lt r (length s.ranges)) [
    | yes h ↦ get_or-set_same s.ranges r Barrier.Open Barrier.Open h
    | no h ↦ rw (set_out s.ranges r Barrier.Open (omega arith)) (get_or-eq_default s.ranges Barrier.Open {n = r} (omega arith))
  ]

  free : range_blocked (record s { ranges = set s.ranges r Barrier.Open }) r ≡ false
  unfolding range_blocked
  free = rw gone refl

  fewer_gone : Fewer s (record s { ranges = set s.ranges r Barrier.Open })
  unfolding range_blocked
  fewer_gone = record { conditions = refl; before = before; watched = refl }
    where
      before : (i : ℕ) → blocks_range (get_or (set s.ranges r Barrier.Open) i Barrier.Open) ≡ true → blocks_range (get_or s.ranges i Barrier.Open) ≡ true
      before i e =
          by_cases (eqb i r) (λ q. absurd (false≢true (rw (eqb-true i r q, gone) at e)))
          (λ q. rw (get_or-set_other s.ranges r i Barrier.Open Barrier.Open (eqb-false i r q)) at e)

-- one that is not blocked is not afterwards
fewer_not : {a b : Blocking} → Fewer a b → (r : ℕ) → range_blocked a r ≡ false → range_blocked b r ≡ false
fewer_not {a} {b} f r e = contrary (range_blocked b r) (range_blocked a r) (f.before r) e

-- p is a member
pub release_member : {m : List ℕ} {p r : ℕ} {s : Blocking} → ReleasesRange m p r s (record s { ranges = set s.ranges r Barrier.Open })
release_member {r = r} {s = s} = record { fewer = fewer_gone s r; free = λ _. free s r }

-- ---- the ranges of class j

-- the loop at range r
pub record Class (m : List ℕ) (p j r : ℕ) (s s' : Blocking) : Type 0 where
  pub of : r % 16 ≡ j % 16
  pub fewer : Fewer s s'
  pub free : (i : ℕ) → i < r → i % 16 ≡ j → is_marked m i p ≡ true → range_blocked s' i ≡ false

pub class_start : {m : List ℕ} {p j : ℕ} {s : Blocking} → Class m p j j s s
class_start = record { of = refl; fewer = fewer_same; free = λ i l o. let no : ⊥ = omega arith in absurd no }

module _ {m : List ℕ} {p j r : ℕ} {s s' : Blocking} (h : Class m p j r s s') where
  pub class_step : {s'' : Blocking} → ReleasesRange m p r s' s'' → Class m p j (r + 16) s s''
  class_step d =
      record {
        of = omega (arith, h.of);
        fewer = fewer_then h.fewer d.fewer;
        free = λ i l o e. by_cases (eqb i r) (λ q. let z = eqb-true i r q in rw z (d.free (rw z at e)))
            (λ q. fewer_not d.fewer i (h.free i (omega (arith, eqb-false i r q, h.of)) o e));
      }

  pub class_end : {ranges : ℕ} → ranges ≤ r → ReleasesClass ranges m p j s s'
  class_end e = record { fewer = h.fewer; free = λ i l. h.free i (omega arith) }

-- ---- the classes that p is watched for

-- the loop where `rest` is left of v
pub record Classes (ranges : ℕ) (m : List ℕ) (p v rest : ℕ) (s s' : Blocking) : Type 0 where
  pub low : rest ≤ v
  pub fewer : Fewer s s'
  pub free : (r : ℕ) → r < ranges → bit (r % 16) v ≡ true → bit (r % 16) rest ≡ false → is_marked m r p ≡ true → range_blocked s' r ≡ false

pub classes_start : {ranges : ℕ} {m : List ℕ} {p v : ℕ} {s : Blocking} → Classes ranges m p v v s s
classes_start = record { low = omega arith; fewer = fewer_same; free = λ r l e d. absurd (true≢false (sym e ∙ d)) }

module _ {ranges : ℕ} {m : List ℕ} {p v rest : ℕ} {s s' : Blocking} (h : Classes ranges m p v rest s s') where
  pub classes_step : {s'' : Blocking} → v < 65536 → (rest ≡ 0 → ⊥) → ReleasesClass ranges m p (count_trailing_zeros 16 rest) s' s''
      → Classes ranges m p v (bit_and rest (rest - 1)) s s''
  classes_step w n d =
      record {
        low = omega (arith, h.low, and_le_l rest (rest - 1));
        fewer = fewer_then h.fewer d.fewer;
        free = λ r l e o i. by_cases (eqb (r % 16) (count_trailing_zeros 16 rest)) (λ q. d.free r l (eqb-true (r % 16) (count_trailing_zeros 16 rest) q) i)
            (λ q. fewer_not d.fewer r (h.free r l e (left r o (eqb-false (r % 16) (count_trailing_zeros 16 rest) q)) i));
      }
    where
      left : (r : ℕ) → bit (r % 16) (bit_and rest (rest - 1)) ≡ false → (r % 16 ≡ count_trailing_zeros 16 rest → ⊥) → bit (r % 16) rest ≡ false
      left r o q = sym (lowest_gone 16 rest (r % 16) (omega (arith, h.low)) n q) ∙ o

  pub classes_end : rest ≡ 0 → ReleasesWatched ranges m p v s s'
  classes_end z = record { fewer = h.fewer; free = λ r l e. h.free r l e (rw z (bit_none (r % 16))) }

-- ---- all of it

-- p is not watched
pub released_none : {ranges : ℕ} {m : List ℕ} {p : ℕ} {s : Blocking} → get_or s.watched p 0 ≡ 0 → Releases ranges m p s s
released_none {p = p} {s = s} e =
    record { is = λ k u t z f h. blocked_still h (λ q i z. f q (λ j. true≢false (sym (rw j at i) ∙ held_none s.watched p e)) ∙ z) }

-- past the parts none is
pub released_past : {ranges : ℕ} {m : List ℕ} {p : ℕ} {s : Blocking} → length s.watched ≡ 1024 → 1024 ≤ p → Releases ranges m p s s
released_past {s = s} l h = released_none (get_or-eq_default s.watched 0 (omega arith))

module _ {ranges : ℕ} {m : List ℕ} {p : ℕ} {s s₁ : Blocking} (b : ReleasesWatched ranges m p (get_or s.watched p 0) (record s { conditions = replicate 256 false }) s₁) where
  pub released : p < length s.watched → Releases ranges m p s (record s₁ { watched = set s₁.watched p 0 })
  released inside = record { is = is }
    where
      new : Blocking
      new = record s₁ { watched = set s₁.watched p 0 }

      same : s₁.watched ≡ s.watched
      same = b.fewer.watched

      is : (k : Counts) (u t : List ℕ) → k.ranges ≡ ranges → {true? now? : ℕ → Bool} → ((q : ℕ) → (q ≡ p → ⊥) → now? q ≡ true? q)
          → Blocked (catalogue k m u t) true? s → Blocked (catalogue k m u t) now? new
      is k u t n {true?} {now?} f h =
          record {
            given = λ x e. absurd (none x e);
            barred = λ x e. absurd (none x e);
            ranges = λ r e. let q = h.ranges r (before r e) in (q.0, watched_still r (rw (ranges_held k m u t) at q.0) e q.1);
            unmet = record { none = λ q e. f q (not_p q e) ∙ h.unmet.none q (rw same at (sym (held_other s₁.watched p 0 q (not_p q e)) ∙ e)) };
          }
        where
          none : (x : ℕ) → is_blocked new x ≡ true → ⊥
          none x e =
              let no : get_or s₁.conditions x false ≡ false = rw b.fewer.conditions (repeated 256 x false) in
              let yes : get_or s₁.conditions x false ≡ true = unfold is_blocked in e in
              false≢true (sym no ∙ yes)

          before : (r : ℕ) → range_blocked new r ≡ true → range_blocked s r ≡ true
          before r e = unfold range_blocked in b.fewer.before r e

          not_p : (q : ℕ) → is_held (set s₁.watched p 0) q ≡ true → q ≡ p → ⊥
          not_p q e z = true≢false (sym (rw z at e) ∙ held_gone s₁.watched p (rw same inside))

          apart : (r : ℕ) → r < k.ranges → range_blocked new r ≡ true → all_watched (catalogue k m u t) s.watched r ≡ true
              → (q : ℕ) → q ∈ matching (catalogue k m u t) r → q ≡ p → ⊥
          apart r l e w q i z =
              let j : p ∈ matching (catalogue k m u t) r = rw z at i in
              let o = all_out (watched_for s.watched r) (matching (catalogue k m u t) r) (unfold all_watched in w) p j in
              let yes : range_blocked s₁ r ≡ true = unfold range_blocked in e in
              true≢false (sym yes ∙ b.free r (omega arith) (unfold watched_for in o) (match_marked k m u t r p l j))

          watched_still : (r : ℕ) → r < k.ranges → range_blocked new r ≡ true → all_watched (catalogue k m u t) s.watched r ≡ true
              → all_watched (catalogue k m u t) (set s₁.watched p 0) r ≡ true
          watched_still r l e w =
              unfold all_watched in
              all_in (watched_for (set s₁.watched p 0) r) (matching (catalogue k m u t) r)
              (λ q i. for_other s₁.watched r p 0 q (apart r l e w q i) ∙ rw same (all_out (watched_for s.watched r) (matching (catalogue k m u t) r) (unfold all_watched in w) q i))

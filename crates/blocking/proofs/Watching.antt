-- The matching parts of a range are watched.
use mathlib.Core.Path.{◌≡◌, refl, sym, ◌∙◌}
use mathlib.Core.Bool.{Bool, true, false, ◌||◌, true≢false, false≢true}
use mathlib.Core.List.{List}
use Prim.Native.Nat.{ℕ, ◌+◌, ◌%◌, ◌<◌, ◌≤◌}
use native.Mathlib.Omega.{arith}
use lib.Dec.{eqb}
use lib.ListN.{length, get_or, set, length-set}
use lib.Seq.{get_or-set_same, get_or-set_other}
use borrow.Author.Tests.{eqb-true, eqb-false, eq-eqb}
use Rattle.rules.specs.Lists.{any, up_to}
use Rattle.rules.specs.Called.{◌∈◌}
use Rattle.rules.specs.Catalogue.{Catalogue, name_of, range_name}
use Rattle.rules.specs.Candidates.{member, matching}
use Rattle.rules.proofs.Bools.{by_cases, and_right, or_right}
use Rattle.rules.proofs.Member.{all_out, all_in, none_out, filter_out, filter_in, up_to_out, up_to_in}
use Rattle.tables.specs.declared.Counts.{Counts}
use Rattle.marks.specs.Marks.{is_marked, WithBit}
use Rattle.marks.proofs.Bits.{bit_none}
use Rattle.cache.specs.declared.Choice.TheVariants.{Matching}
use Rattle.cache.specs.Areas.{catalogue}
use Rattle.cache.specs.Lists.{asked, chosen, choice}
use Rattle.cache.proofs.Laws.{parts_held}
use Rattle.cache.proofs.Lists.{member_in, matching_is}
use Rattle.index.specs.Chains.{Skips}
use Rattle.index.proofs.Walking.{walk}
use Rattle.entries.specs.Deferred.{is_held, is_free}
use Rattle.entries.proofs.Places.{is_free_law, is_held_law}
use Rattle.blocking.specs.Blocking.{watched_for, all_watched, Unmet, PartsWatched}

-- ---- one flag more or less

module _ (flags : List ℕ) (p : ℕ) where
  pub held_other : (v q : ℕ) → (q ≡ p → ⊥) → is_held (set flags p v) q ≡ is_held flags q
  unfolding is_held is_free
  held_other v q n = rw (get_or-set_other flags p q v 0 n)

  pub held_gone : p < length flags → is_held (set flags p 0) p ≡ false
  unfolding is_held is_free
  held_gone h = rw (get_or-set_same flags p 0 0 h)

  -- where 0 stands or nothing, none is set
  pub held_none : get_or flags p 0 ≡ 0 → is_held flags p ≡ false
  unfolding is_held
  held_none h = rw (is_free_law flags p h) refl

-- ---- one part is watched for range r

-- it is watched
pub for_held : (w : List ℕ) (r p : ℕ) → watched_for w r p ≡ true → is_held w p ≡ true
unfolding watched_for is_held
for_held w r p e = rw (is_held_law w p (λ z. true≢false (sym (rw z at e) ∙ bit_none (r % 16))))

-- others are as before where v is put at p
pub for_other : (w : List ℕ) (r p v q : ℕ) → (q ≡ p → ⊥) → watched_for (set w p v) r q ≡ watched_for w r q
unfolding watched_for
for_other w r p v q n = rw (get_or-set_other w p q v 0 n)

-- and p, where the bit of range r is set besides, is watched for that and for what it was
for_here : (w : List ℕ) (r p v : ℕ) → p < length w → WithBit (r % 16) (get_or w p 0) v → (i : ℕ)
    → watched_for (set w p v) i p ≡ (eqb (i % 16) (r % 16) || watched_for w i p)
unfolding watched_for
for_here w r p v h b i = rw (get_or-set_same w p v 0 h) (b.is (i % 16))

-- ---- the parts of range r

-- the loop at part p
pub record Watching (c : Catalogue) (r p : ℕ) (watched watched' : List ℕ) : Type 0 where
  pub room : length watched' ≡ 1024
  pub still : (i q : ℕ) → watched_for watched i q ≡ true → watched_for watched' i q ≡ true
  pub passed : (q : ℕ) → q < p → chosen c r Matching q ≡ true → watched_for watched' r q ≡ true
  pub unmet : (f : ℕ → Bool) → any f (matching c r) ≡ false → Unmet f watched → Unmet f watched'

module _ (k : Counts) (m u t : List ℕ) (r : ℕ) where
  abbrev C : Catalogue
  C = catalogue k m u t

  is_match : (p : ℕ) → p < k.parts → chosen C r Matching p ≡ true → p ∈ matching C r
  unfolding choice
  is_match p h e =
      rw (← matching_is C r) (filter_in (chosen C r Matching) (up_to 0 (length C.parts)) p (up_to_in 0 (length C.parts) p (omega arith) (omega (arith, parts_held k m u t))) e)

  match_is : (p : ℕ) → p ∈ matching C r → (p < k.parts) × (chosen C r Matching p ≡ true)
  unfolding choice
  match_is p h =
      let q = filter_out (chosen C r Matching) (up_to 0 (length C.parts)) p (rw (matching_is C r) h) in
      (omega (arith, parts_held k m u t, (up_to_out 0 (length C.parts) p q.0).1), q.1)

  -- a matching part is marked as a member
  pub match_marked : (p : ℕ) → r < k.ranges → p ∈ matching C r → is_marked m r p ≡ true
  unfolding chosen asked
  match_marked p h i = member_in k m u t r p (is_marked m r p) h refl ∙ and_right (eqb (name_of C p) (range_name C r)) (member C r p) (match_is p i).1

  module _ {w : List ℕ} where
    -- past a part that does not match
    watch_next : {w' : List ℕ} (i : ℕ) → chosen C r Matching i ≡ false → Watching C r i w w' → Watching C r (i + 1) w w'
    watch_next i e z =
        record {
          room = z.room;
          still = z.still;
          passed = λ q l d. by_cases (eqb q i) (λ j. absurd (true≢false (sym d ∙ rw (eqb-true q i j) e))) (λ j. z.passed q (omega (arith, eqb-false q i j)) d);
          unmet = z.unmet;
        }

    watch_on : {p x : ℕ} {w' : List ℕ} → Skips k.parts (chosen C r Matching) p x → Watching C r p w w' → Watching C r x w w'
    watch_on {p} {x} {w'} s y = walk (λ i. Watching C r i w w') (λ i h e z. watch_next i e z) s y

    pub watch_first : {x : ℕ} → length w ≡ 1024 → Skips k.parts (chosen C r Matching) 0 x → Watching C r x w w
    watch_first h s =
        watch_on s (record { room = h; still = λ i q e. e; passed = λ q l d. let no : ⊥ = omega arith in absurd no; unmet = λ f e o. o })

    module _ {p x : ℕ} {w' : List ℕ} (y : Watching C r p w w') (b : Bool) (h : p < k.parts) (e : b ≡ chosen C r Matching p)
        (s : Skips k.parts (chosen C r Matching) (p + 1) x) where
      pub watch_past : {w'' : List ℕ} → b ≡ false → w'' ≡ w' → Watching C r x w w''
      watch_past d v = rw v (watch_on s (watch_next p (sym e ∙ d) y))

      pub watch_flag : {v : ℕ} {w'' : List ℕ} → k.parts ≤ 1024 → b ≡ true → WithBit (r % 16) (get_or w' p 0) v → w'' ≡ set w' p v → Watching C r x w w''
      watch_flag {v} most d n a =
          rw a (watch_on s (record {
            room = length-set w' p v ∙ y.room;
            still = λ i q j. by_cases (eqb q p) (λ o. let z = eqb-true q p o in rw z (still i (y.still i p (rw z at j)))) (λ o. other i q o (y.still i q j));
            passed = λ q l c. by_cases (eqb q p) (λ o. rw (eqb-true q p o) here) (λ o. other r q o (y.passed q (omega (arith, eqb-false q p o)) c));
            unmet = λ f o u. record {
              none = λ q i. by_cases (eqb q p) (λ j. rw (eqb-true q p j) (none_out f (matching C r) o p (is_match p h (sym e ∙ d))))
                  (λ j. (y.unmet f o u).none q (sym (held_other w' p v q (eqb-false q p j)) ∙ i));
            };
          }))
        where
          now_for : (i : ℕ) → watched_for (set w' p v) i p ≡ (eqb (i % 16) (r % 16) || watched_for w' i p)
          now_for = for_here w' r p v (omega (arith, y.room)) n

          here : watched_for (set w' p v) r p ≡ true
          here = now_for r ∙ rw (eq-eqb (r % 16) (r % 16) refl)

          still : (i : ℕ) → watched_for w' i p ≡ true → watched_for (set w' p v) i p ≡ true
          still i j = now_for i ∙ or_right (eqb (i % 16) (r % 16)) (watched_for w' i p) j

          other : (i q : ℕ) → eqb q p ≡ false → watched_for w' i q ≡ true → watched_for (set w' p v) i q ≡ true
          other i q j o = for_other w' i p v q (eqb-false q p j) ∙ o

    module _ {p : ℕ} {w' : List ℕ} (y : Watching C r p w w') where
      -- not all of them
      pub watched_some : PartsWatched C r false w w'
      watched_some = record { still = y.still; all = λ e. absurd (false≢true e); unmet = y.unmet }

      -- all
      pub watched_all : k.parts ≤ p → PartsWatched C r true w w'
      unfolding all_watched
      watched_all h =
          record {
            still = y.still;
            all = λ _. all_in (watched_for w' r) (matching C r) (λ q m. let d = match_is q m in y.passed q (omega (arith, d.0)) d.1);
            unmet = y.unmet;
          }

-- where more is watched
pub all_more : (c : Catalogue) (w w' : List ℕ) → ((i p : ℕ) → watched_for w i p ≡ true → watched_for w' i p ≡ true) → (r : ℕ) → all_watched c w r ≡ true → all_watched c w' r ≡ true
unfolding all_watched
all_more c w w' h r e = all_in (watched_for w' r) (matching c r) (λ p m. h r p (all_out (watched_for w r) (matching c r) e p m))

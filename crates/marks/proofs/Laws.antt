-- Marks against their code: a law for each way out of each function.
use mathlib.Core.Path.{◌≡◌, refl, sym, ◌∙◌, ap, fun_ext}
use mathlib.Core.Bool.{Bool, true, false, not, ◌&&◌, ◌||◌}
use mathlib.Core.List.{List, ◌++◌}
use Prim.Native.Nat.{ℕ, ◌+◌, ◌*◌, ◌-◌, ◌/◌, ◌%◌, ◌^◌, ◌<◌, ◌≤◌, zero-le}
use native.Mathlib.Omega.{arith}
use native.Mathlib.Decide.{dec_lt}
use lib.Dec.{eqb, ltb}
use lib.ListN.{length, get_or, set, take, drop, replicate, length-drop, length-replicate, get_or-replicate, get_or-append}
use lib.Seq.{get_or-set_same, get_or-set_other, get_or-take, get_or-drop, get_or-append-add, length-take-le}
use borrow.Author.Tests.{eqb-true, eqb-false, eq-eqb, ne_eqb, lt-ltb, le-ltb}
use Rattle.rules.specs.AtMostOne.{bit}
use Rattle.rules.specs.Lists.{all, up_to}
use Rattle.rules.proofs.Bools.{and_left, and_right, and_both, same_test}
use Rattle.rules.proofs.Member.{all_out, up_to_in}
use Rattle.marks.specs.Marks.{is_marked, WithBit, Marked, Cleared, NextMember, EndOfMembers}
use Rattle.marks.proofs.Bits.{bit_none, bit_more, bit_room}

-- ---- a byte

pub power_is : (j : ℕ) → j < 8 → 1 * 2 ^ j % 256 ≡ 2 ^ j
power_is j h =
    eqb-true (1 * 2 ^ j % 256) (2 ^ j) (all_out (λ (i : ℕ). eqb (1 * 2 ^ i % 256) (2 ^ i)) (up_to 0 8) (unfold all up_to in refl) j (up_to_in 0 8 j zero-le h))

or_one_true : (a b : Bool) → (a ≡ true → b ≡ true) → b ≡ (a || b)
or_one_true true b f = f refl
or_one_true false b f = refl

pub bit_stays : (j x : ℕ) (b : Bool) → b ≡ bit j x → b ≡ true → WithBit j x x
bit_stays j x b e t = record { is = λ k. or_one_true (eqb k j) (bit k x) (λ h. rw (eqb-true k j h) (sym e ∙ t)) }

pub bit_added : (j x y : ℕ) (b : Bool) → b ≡ bit j x → b ≡ false → y ≡ 2 ^ j → WithBit j x (x + y)
bit_added j x y b e t h = record { is = λ k. rw h (bit_more j k x (sym e ∙ t)) }

pub bit_fits : (j x y : ℕ) (b : Bool) → b ≡ bit j x → b ≡ false → y ≡ 2 ^ j → j < 8 → x < 256 → x + y < 256
bit_fits j x y b e t h l m = rw h (bit_room 8 j x l m (sym e ∙ t))

-- ---- a member

pub marked_in : (m : List ℕ) (r p : ℕ) (b : Bool) → p < 1024 → b ≡ bit (p % 8) (get_or m (r * 128 + p / 8) 0) → b ≡ is_marked m r p
unfolding is_marked
marked_in m r p b h e = rw (lt-ltb p 1024 h, e)

pub marked_out : (m : List ℕ) (r p : ℕ) → 1024 ≤ p → false ≡ is_marked m r p
unfolding is_marked
marked_out m r p h = rw (le-ltb p 1024 h)

-- ranges and parts have their own bits
place_is : (r s p q : ℕ) → p < 1024 → q < 1024
    → (eqb (s * 128 + q / 8) (r * 128 + p / 8) && eqb (q % 8) (p % 8)) ≡ (eqb s r && eqb q p)
place_is r s p q h l = same_test _ _ there here
  where
    there : (eqb (s * 128 + q / 8) (r * 128 + p / 8) && eqb (q % 8) (p % 8)) ≡ true → (eqb s r && eqb q p) ≡ true
    there e =
        let i = eqb-true (s * 128 + q / 8) (r * 128 + p / 8) (and_left _ _ e) in
        let j = eqb-true (q % 8) (p % 8) (and_right (eqb (s * 128 + q / 8) (r * 128 + p / 8)) _ e) in
        and_both _ _ (eq-eqb s r (omega arith)) (eq-eqb q p (omega arith))

    here : (eqb s r && eqb q p) ≡ true → (eqb (s * 128 + q / 8) (r * 128 + p / 8) && eqb (q % 8) (p % 8)) ≡ true
    here e =
        let i = eqb-true s r (and_left _ _ e) in
        let j = eqb-true q p (and_right (eqb s r) _ e) in
        and_both _ _ (eq-eqb _ (r * 128 + p / 8) (rw (i, j))) (eq-eqb _ (p % 8) (rw j))

-- one bit set in one byte
pub byte_set : (m : List ℕ) (at j b : ℕ) → at < length m → WithBit j (get_or m at 0) b
    → (i k : ℕ) → bit k (get_or (set m at b) i 0) ≡ ((eqb i at && eqb k j) || bit k (get_or m i 0))
byte_set m at j b h w i k = go (eqb i at) refl
  where
    go : (t : Bool) → eqb i at ≡ t → bit k (get_or (set m at b) i 0) ≡ ((t && eqb k j) || bit k (get_or m i 0))
    go true e = rw (eqb-true i at e, get_or-set_same m at b 0 h) (w.is k)
    go false e = rw (get_or-set_other m at i b 0 (eqb-false i at e))

and_false : (a : Bool) → (a && false) ≡ false
and_false true = refl
and_false false = refl

module _ (m : List ℕ) (r p b : ℕ) (h : r < 512) (l : 65536 ≤ length m) (g : p < 1024) (w : WithBit (p % 8) (get_or m (r * 128 + p / 8) 0) b) where
  mark_at : (s q : ℕ) → is_marked (set m (r * 128 + p / 8) b) s q ≡ ((eqb s r && eqb q p) || is_marked m s q)
  unfolding is_marked
  mark_at s q = elim (dec_lt q 1024) [
    | yes f ↦
        let e = byte_set m (r * 128 + p / 8) (p % 8) b (omega arith) w (s * 128 + q / 8) (q % 8) in
        rw (lt-ltb q 1024 f, e, place_is r s p q g f)
    | no f ↦
        let e : eqb q p ≡ false = ne_eqb q p (λ x. omega arith) in
        rw (le-ltb q 1024 (omega arith), e, and_false (eqb s r))
  ]

  pub mark_is : Marked m (set m (r * 128 + p / 8) b) r p
  mark_is = record { is = mark_at }

-- ---- a row

module _ (xs ys : List ℕ) (n : ℕ) (e : length xs ≡ n) where
  at_before : (i : ℕ) → i < n → get_or (xs ++ ys) i 0 ≡ get_or xs i 0
  at_before i h = get_or-append xs ys 0 i (omega arith)

  at_behind : (i : ℕ) → n ≤ i → get_or (xs ++ ys) i 0 ≡ get_or ys (i - n) 0
  at_behind i h =
      let q : i ≡ length xs + (i - n) = omega arith in
      ap (λ (k : ℕ). get_or (xs ++ ys) k 0) q ∙ get_or-append-add xs ys (i - n) 0

at_dropped : (xs : List ℕ) (n i : ℕ) → n ≤ i → get_or (drop n xs) (i - n) 0 ≡ get_or xs i 0
at_dropped xs n i h =
    let q : n + (i - n) ≡ i = omega arith in
    get_or-drop n xs (i - n) 0 ∙ ap (λ (k : ℕ). get_or xs k 0) q

-- k zeros in the place of those from a on
module _ (m : List ℕ) (a k : ℕ) (h : a + k ≤ length m) where
  zeroed : List ℕ
  zeroed = take a m ++ (replicate k 0 ++ drop k (drop a m))

  before : length (take a m) ≡ a
  before = length-take-le a m (omega arith)

  zeroed_below : (i : ℕ) → i < a → get_or zeroed i 0 ≡ get_or m i 0
  unfolding zeroed
  zeroed_below i l = at_before (take a m) _ a before i l ∙ get_or-take a m i 0 l

  zeroed_in : (i : ℕ) → a ≤ i → i < a + k → get_or zeroed i 0 ≡ 0
  unfolding zeroed
  zeroed_in i l g =
      let f : i - a < k = omega arith in
      at_behind (take a m) _ a before i l ∙ at_before (replicate k 0) _ k (length-replicate k 0) (i - a) f ∙ get_or-replicate k (i - a) 0 0 f

  zeroed_above : (i : ℕ) → a + k ≤ i → get_or zeroed i 0 ≡ get_or m i 0
  unfolding zeroed
  zeroed_above i l =
      at_behind (take a m) _ a before i (omega arith) ∙ at_behind (replicate k 0) _ k (length-replicate k 0) (i - a) (omega arith)
      ∙ at_dropped (drop a m) k (i - a) (omega arith) ∙ at_dropped m a i (omega arith)

module _ (m : List ℕ) (r : ℕ) (h : r * 128 + 128 ≤ length m) where
  row_zeroed : (s b k : ℕ) → b < 128 → bit k (get_or (zeroed m (r * 128) 128 h) (s * 128 + b) 0) ≡ (not (eqb s r) && bit k (get_or m (s * 128 + b) 0))
  row_zeroed s b k l = go (eqb s r) refl
    where
      go : (t : Bool) → eqb s r ≡ t → bit k (get_or (zeroed m (r * 128) 128 h) (s * 128 + b) 0) ≡ (not t && bit k (get_or m (s * 128 + b) 0))
      go true e =
          let f = eqb-true s r e in
          rw (zeroed_in m (r * 128) 128 h (s * 128 + b) (omega arith) (omega arith)) (bit_none k)
      go false e =
          let f = eqb-false s r e in
          elim (dec_lt s r) [
            | yes g ↦ rw (zeroed_below m (r * 128) 128 h (s * 128 + b) (omega arith))
            | no g ↦ rw (zeroed_above m (r * 128) 128 h (s * 128 + b) (omega arith))
          ]

  no_row_law : (s q : ℕ) → is_marked (zeroed m (r * 128) 128 h) s q ≡ (not (eqb s r) && is_marked m s q)
  unfolding is_marked
  no_row_law s q = elim (dec_lt q 1024) [
    | yes f ↦ rw (lt-ltb q 1024 f) (row_zeroed s (q / 8) (q % 8) (omega arith))
    | no f ↦ rw (le-ltb q 1024 (omega arith), and_false (not (eqb s r)))
  ]

pub clear_is : (m ys : List ℕ) (r a k : ℕ) → r < 512 → 65536 ≤ length m → a ≡ r * 128 → k ≡ a + 128 - a
    → ys ≡ replicate (length (take k (drop a m))) 0 → Cleared m (take a m ++ (ys ++ drop k (drop a m))) r
unfolding zeroed
clear_is m ys r a k h l d e f =
    let g : r * 128 + 128 ≤ length m = omega arith in
    let q : k ≡ 128 = omega arith in
    let n : length (take 128 (drop (r * 128) m)) ≡ 128 = length-take-le 128 (drop (r * 128) m) (rw length-drop (omega arith)) in
    record { is = rw (f, q, d, n) (no_row_law m r g) }

-- ---- for callers: the members of each range, as a test on parts

module _ {m m' : List ℕ} {r p : ℕ} (x : Marked m m' r p) where
  pub marked_row : is_marked m' r ≡ (λ (q : ℕ). eqb q p || is_marked m r q)
  marked_row = fun_ext (λ q. x.is r q ∙ rw (eq-eqb r r refl))

  pub marked_other : (s : ℕ) → (s ≡ r → ⊥) → is_marked m' s ≡ is_marked m s
  marked_other s h = fun_ext (λ q. x.is s q ∙ rw (ne_eqb s r h))

module _ {m m' : List ℕ} {r : ℕ} (x : Cleared m m' r) where
  pub cleared_row : is_marked m' r ≡ (λ (q : ℕ). false)
  cleared_row = fun_ext (λ q. x.is r q ∙ rw (eq-eqb r r refl))

  pub cleared_other : (s : ℕ) → (s ≡ r → ⊥) → is_marked m' s ≡ is_marked m s
  cleared_other s h = fun_ext (λ q. x.is s q ∙ rw (ne_eqb s r h))

-- ---- the next member

-- none from `from` on below p
pub record Passed (m : List ℕ) (r from p : ℕ) : Type 0 where
  pub onward : from ≤ p
  pub none : (q : ℕ) → from ≤ q → q < p → is_marked m r q ≡ false

pub passed_start : (m : List ℕ) (r from : ℕ) → Passed m r from from
passed_start m r from = record { onward = omega arith; none = λ q a b. (let none : ⊥ = omega arith in absurd none) }

unmarked : (m : List ℕ) (r q : ℕ) → bit (q % 8) (get_or m (r * 128 + q / 8) 0) ≡ false → is_marked m r q ≡ false
unfolding is_marked
unmarked m r q e = rw e (and_none (ltb q 1024))
  where
    and_none : (b : Bool) → (b && false) ≡ false
    and_none true = refl
    and_none false = refl

module _ {m : List ℕ} {r from p : ℕ} (h : Passed m r from p) where
  pub byte_passed : (x : ℕ) → x ≡ get_or m (r * 128 + p / 8) 0 → x ≡ 0 → Passed m r from (p + 8 - p % 8)
  byte_passed x e z =
      record { onward = let o = h.onward in omega arith; none = λ q a b. elim (dec_lt q p) [ yes l ↦ h.none q a l | no l ↦ within q (omega arith) b ] }
    where
      within : (q : ℕ) → p ≤ q → q < p + 8 - p % 8 → is_marked m r q ≡ false
      within q a b =
          let same : q / 8 ≡ p / 8 = omega arith in
          let byte : get_or m (r * 128 + q / 8) 0 ≡ 0 = rw same (sym e ∙ z) in
          unmarked m r q (rw byte (bit_none (q % 8)))

  pub bit_passed : (x : ℕ) (b : Bool) → x ≡ get_or m (r * 128 + p / 8) 0 → b ≡ bit (p % 8) x → b ≡ false → Passed m r from (p + 1)
  bit_passed x b e f z =
      record { onward = let o = h.onward in omega arith; none = λ q a l. elim (dec_lt q p) [ yes g ↦ h.none q a g | no g ↦ here q (omega arith) ] }
    where
      here : (q : ℕ) → q ≡ p → is_marked m r q ≡ false
      here q d = rw d (unmarked m r p (rw (← e, ← f) z))

  pub member_found : {to : ℕ} → p < to → NextMember m r from to p
  member_found l = record { onward = h.onward; inside = omega arith; none = h.none }

  pub none_found : {to : ℕ} → from ≤ to → to ≤ p → NextMember m r from to to
  none_found {to} a l = record { onward = a; inside = omega arith; none = λ q b c. h.none q b (omega arith) }

-- ---- the end of the members

pub ended_start : (m : List ℕ) (r to : ℕ) → EndOfMembers m r to to
ended_start m r to = record { inside = omega arith; none = λ q a b. (let none : ⊥ = omega arith in absurd none) }

module _ {m : List ℕ} {r to p : ℕ} (h : EndOfMembers m r to p) where
  pub byte_before : (q x : ℕ) → q ≡ p - 1 → 0 < p → x ≡ get_or m (r * 128 + q / 8) 0 → x ≡ 0 → EndOfMembers m r to (q - q % 8)
  byte_before q x d l e z =
      record { inside = let o = h.inside in omega arith; none = λ i a b. elim (dec_lt i p) [ yes g ↦ within i a g | no g ↦ h.none i (omega arith) b ] }
    where
      within : (i : ℕ) → q - q % 8 ≤ i → i < p → is_marked m r i ≡ false
      within i a b =
          let same : i / 8 ≡ q / 8 = omega arith in
          let byte : get_or m (r * 128 + i / 8) 0 ≡ 0 = rw same (sym e ∙ z) in
          unmarked m r i (rw byte (bit_none (i % 8)))

  pub bit_before : (q x : ℕ) (b : Bool) → q ≡ p - 1 → 0 < p → x ≡ get_or m (r * 128 + q / 8) 0 → b ≡ bit (q % 8) x → b ≡ false → EndOfMembers m r to q
  bit_before q x b d l e f z =
      record { inside = let o = h.inside in omega arith; none = λ i a g. elim (dec_lt i p) [ yes j ↦ here i (omega arith) | no j ↦ h.none i (omega arith) g ] }
    where
      here : (i : ℕ) → i ≡ q → is_marked m r i ≡ false
      here i j = rw j (unmarked m r q (rw (← e, ← f) z))

  pub all_before : p ≤ 0 → EndOfMembers m r to 0
  all_before l = let e : p ≡ 0 = omega arith in rw e at h

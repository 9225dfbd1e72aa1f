-- The functions against the definitions: a law for each way out of each that the check does not find alone.
use mathlib.Core.Path.{◌≡◌, refl, ap, sym, ◌∙◌}
use mathlib.Core.Bool.{Bool, true, false, true≢false}
use mathlib.Core.List.{List, [], ◌∷◌, ◌++◌, append_assoc}
use Prim.Native.Nat.{ℕ, zero, suc, ◌+◌, ◌-◌, ◌*◌, ◌/◌, ◌%◌, ◌^◌, ◌<◌, ◌≤◌, min, max}
use native.Mathlib.Decide.{dec_lt}
use native.Mathlib.Omega.{arith}
use lib.ListN.{length, get_or, set, take, drop, drop_of_length-le, length-append, length-drop, length-set}
use lib.Seq.{sets, sets-eq, length-sets, take_all, length-take-le, take-append_seam, drop-append_seam, get_or-take, get_or-drop, ext_get_or}
use Rattle.std.proofs.lemmas.List.{take_more, take-append-drop, take-take, drop-drop, drop-set, drop-take}
use Rattle.rules.specs.Listing.{decimal, signed}
use Rattle.rules.proofs.Digits.{by_ten, decimal_digit, decimal_digits}
use Rattle.text.specs.declared.Writer.{Writer}
use Rattle.text.specs.Text.{wrote, literal_of, copied}
use Rattle.text.specs.Writing.{Writes, writes, Stands, Repeats}
use Rattle.text.proofs.Written.{sets_append, sets_past}
use Rattle.text.proofs.Writing.{then}

-- ---- a word, byte by byte

pub word_step : {w w1 w2 : Writer} (bytes : List ℕ) (i : ℕ) → Writes w w1 (take i bytes) → i < length bytes → Writes w1 w2 (get_or bytes i 0 ∷ [])
    → Writes w w2 (take (i + 1) bytes)
word_step bytes i f h g = rw (take_more bytes i 0 h) (then f g)

-- ---- numbers in decimal

module _ {w w1 : Writer} {n : ℕ} where
  pub decimal_one : n < 10 → Writes w w1 ((48 + n) ∷ []) → Writes w w1 (decimal n)
  decimal_one h f = rw (decimal_digit n h) f

  pub decimal_more : {w2 : Writer} → 10 ≤ n → Writes w w1 (decimal (n / 10)) → Writes w1 w2 ((48 + n % 10) ∷ []) → Writes w w2 (decimal n)
  decimal_more h f g = rw (decimal_digits n h) (then f g)

-- ---- how many digits a number has

length_digit : (n : ℕ) → n < 10 → length (decimal n) ≡ 1
length_digit n h = rw (decimal_digit n h)

length_digits : (n : ℕ) → 10 ≤ n → length (decimal n) ≡ length (decimal (n / 10)) + 1
length_digits n h = rw (decimal_digits n h, length-append) (omega arith)

length_by : (k n : ℕ) → 10 ^ k ≤ n → n < 10 * 10 ^ k → k + 1 ≡ length (decimal n)
length_by zero n g h = omega (arith, length_digit n (omega arith))
length_by (suc k) n g h =
    let p : 10 ≤ n = omega arith in
    let below : 10 ^ k ≤ n / 10 = omega arith in
    let above : n / 10 < 10 * 10 ^ k = omega arith in
    omega (arith, length_digits n p, length_by k (n / 10) below above)

pub width_is : (n m k : ℕ) → m ≡ max n 1 → 10 ^ k ≤ m → m < 10 * 10 ^ k → k + 1 ≡ length (decimal n)
width_is n m k e g h =
    by_ten n _ (λ d. omega (arith, length_digit n d, length_by k m g h, length_digit m (omega arith))) (λ d. let q : m ≡ n = omega arith in rw q at (length_by k m g h))

-- ---- digits from the last to the first

-- before the digit at i - 1: those from i on are written, and m has the others
pub record Digits (n : ℕ) (out : List ℕ) (i m : ℕ) : Type 0 where
  pub same : length out ≡ length (decimal n)
  pub most : i ≤ length (decimal n)
  pub done : drop i out ≡ drop i (decimal n)
  pub rest : 0 < i → take i (decimal n) ≡ decimal m

pub digits_start : (n : ℕ) (out : List ℕ) → length out ≡ length (decimal n) → Digits n out (length out) n
digits_start n out e = record {
  same = e;
  most = omega (arith, e);
  done =
      let q : length (decimal n) ≤ length out = omega (arith, e) in
      let p : length out ≤ length out = omega arith in
      drop_of_length-le out p ∙ sym (drop_of_length-le (decimal n) q);
  rest = λ h. take_all (length out) (decimal n) (omega (arith, e));
}

-- a list that ends with the last digit of m, of length j + 1, and its other elements
parted : (m j : ℕ) → length (decimal m) ≡ j + 1 → (xs : List ℕ) × (decimal m ≡ xs ++ ((48 + m % 10) ∷ [])) × (length xs ≡ j) × (0 < j → xs ≡ decimal (m / 10))
parted m j e = by_ten m _
    (λ h. let d : m % 10 ≡ m = omega arith in ([], rw (d, decimal_digit m h), omega (arith, e, length_digit m h), λ p. let no : ⊥ = omega (arith, e, length_digit m h) in absurd no))
    (λ h. (decimal (m / 10), decimal_digits m h, omega (arith, e, length_digits m h), λ p. refl))

module _ {n : ℕ} {out : List ℕ} {i m : ℕ} (f : Digits n out i m) (h : 0 < i) where
  ended : (xs : List ℕ) → decimal m ≡ xs ++ ((48 + m % 10) ∷ []) → decimal n ≡ xs ++ ((48 + m % 10) ∷ drop i (decimal n))
  ended xs d = sym (take-append-drop i (decimal n)) ∙ rw (f.rest h, d, append_assoc)

  by_last : (j : ℕ) (xs : List ℕ) → i ≡ j + 1 → length xs ≡ j → decimal n ≡ xs ++ ((48 + m % 10) ∷ drop i (decimal n)) → (0 < j → xs ≡ decimal (m / 10))
      → Digits n (set out j (48 + m % 10)) j (m / 10)
  by_last j xs e s d r =
      let k : j < length out = omega (arith, f.most, f.same) in
      let behind : drop j (decimal n) ≡ (48 + m % 10) ∷ drop i (decimal n) = ap (drop j) d ∙ rw (← s) (drop-append_seam xs _) in
      let before : take j (decimal n) ≡ xs = ap (take j) d ∙ rw (← s) (take-append_seam xs _) in
      record {
        same = rw length-set f.same;
        most = omega (arith, f.most);
        done = drop-set out j (48 + m % 10) k ∙ (rw (← e, f.done) (sym behind));
        rest = λ q. before ∙ r q;
      }

  pub digits_step : Digits n (set out (i - 1) (48 + m % 10)) (i - 1) (m / 10)
  digits_step =
      let l : length (decimal m) ≡ i - 1 + 1 = ap length (sym (f.rest h)) ∙ (length-take-le i (decimal n) f.most ∙ omega arith) in
      let p = parted m (i - 1) l in
      by_last (i - 1) p.0 (omega arith) p.2 (ended p.0 p.1) p.3

pub digits_end : {n : ℕ} {out : List ℕ} {i m : ℕ} → Digits n out i m → i ≤ 0 → out ≡ decimal n
digits_end {n} {out} {i} f h = let e : i ≡ 0 = omega arith in rw e at f.done

-- ---- bytes that fit: counted, written at once, or in two pieces

-- o with the bytes from `at` to r in place of its own
abbrev put : (o : List ℕ) (at r : ℕ) (bs : List ℕ) → List ℕ
put o at r bs = take at o ++ (bs ++ drop (r - at) (drop at o))

put_sets : (o : List ℕ) (at r : ℕ) (bs : List ℕ) → r ≡ at + length bs → r ≤ length o → put o at r bs ≡ sets o at bs
put_sets o at r bs e h =
    let width : r - at ≡ length bs = omega arith in
    rw (width, drop-drop) (sym (sets-eq bs o at (omega arith) ∙ append_assoc (take at o) bs _))

module _ (w w1 : Writer) (room : w1.room ≡ w.room) (same : w1.out.ghost_name ≡ w.out.ghost_name) where
  module _ (bs : List ℕ) (next : w1.at ≡ w.at + length bs) (fits : w1.at ≤ w.room) where
    fitting : w1.out.now ≡ sets w.out.now w.at bs → Writes w w1 bs
    fitting e = writes room same (wrote (rw (take_all (suc w.room - w.at) bs (omega arith)) next) (rw (take_all (w.room - w.at) bs (omega arith)) e))

    pub counted : w1.out.now ≡ w.out.now → length w.out.now ≡ 0 → Writes w w1 bs
    counted e h = fitting (e ∙ sym (sets_past w.out.now w.at bs (omega arith)))

    pub at_once : (cs : List ℕ) → cs ≡ bs → w1.out.now ≡ put w.out.now w.at w1.at cs → w1.at ≤ length w.out.now → Writes w w1 bs
    at_once cs d e h = fitting (e ∙ rw d (put_sets w.out.now w.at w1.at bs next h))

  pub in_two : (us vs us' vs' : List ℕ) (m : ℕ) → us' ≡ us → vs' ≡ vs → w1.out.now ≡ put (put w.out.now w.at m us') m w1.at vs'
      → m ≡ w.at + length us → w1.at ≡ m + length vs → w1.at ≤ w.room → w1.at ≤ length w.out.now → Writes w w1 (us ++ vs)
  in_two us vs us' vs' m d e f g h fits i =
      let first : put w.out.now w.at m us' ≡ sets w.out.now w.at us = rw d (put_sets w.out.now w.at m us g (omega arith)) in
      let second : w1.out.now ≡ put (sets w.out.now w.at us) m w1.at vs = rw (first, e) at f in
      fitting (us ++ vs) (rw length-append (omega arith)) fits
      (second ∙ put_sets (sets w.out.now w.at us) m w1.at vs h (rw length-sets i) ∙ rw g (sym (sets_append w.out.now w.at us vs)))

-- ---- bytes once more

module _ (o : List ℕ) (begin n at m : ℕ) (room : begin + n ≤ at) (within : at < length o) (most : m ≡ min n (length o - at)) where
  abbrev us : List ℕ
  us = take n (drop begin o)

  length_us : length us ≡ n
  length_us = length-take-le n (drop begin o) (rw length-drop (omega arith))

  length_piece : length (take m us) ≡ m
  length_piece = length-take-le m us (omega (arith, length_us))

  -- the bytes beyond the area are none
  rest_past : sets (sets o at (take m us)) (at + length (take m us)) (drop m us) ≡ sets o at (take m us)
  rest_past = elim (dec_lt m n) [
    | yes h ↦ sets_past (sets o at (take m us)) (at + length (take m us)) (drop m us) (rw (length-sets, length_piece) (omega arith))
    | no h ↦ let none : drop m us ≡ [] = drop_of_length-le us (omega (arith, length_us)) in rw none
  ]

  all_copied : sets o at us ≡ sets o at (take m us)
  all_copied = ap (sets o at) (sym (take-append-drop m us)) ∙ (sets_append o at (take m us) (drop m us) ∙ rest_past)

  piece : take m (drop begin (take at o)) ≡ take m us
  piece =
      let split : begin + (at - begin) ≡ at = omega arith in
      let front : drop begin (take at o) ≡ take (at - begin) (drop begin o) = rw split at (drop-take begin (at - begin) o) in
      ap (take m) front ∙ (take-take m (at - begin) (drop begin o) (omega arith) ∙ sym (take-take m n (drop begin o) (omega arith)))

  pub copied_behind : {front back bs : List ℕ} → front ≡ take at o → back ≡ drop at o → bs ≡ take m (drop begin front) → front ++ (bs ++ drop m back) ≡ copied o begin n at
  unfolding copied
  copied_behind e d f =
      let q : at + length (take m us) ≤ length o = omega (arith, length_piece) in
      let width : at + m - at ≡ m = omega arith in
      rw (f, e, d, piece, all_copied) (ap (λ k. take at o ++ (take m us ++ drop k (drop at o))) (sym width) ∙ put_sets o at (at + m) (take m us) (omega (arith, length_piece)) (omega (arith, length_piece)))

pub copied_past : (o : List ℕ) (begin n at : ℕ) → length o ≤ at → o ≡ copied o begin n at
unfolding copied
copied_past o begin n at h = sym (sets_past o at (take n (drop begin o)) h)

module _ {w : Writer} {begin n : ℕ} {bs : List ℕ} (s : Stands bs w begin n) where
  copied_is : copied w.out.now begin n w.at ≡ sets w.out.now w.at bs
  unfolding copied
  copied_is =
      let o : List ℕ = w.out.now in
      elim (dec_lt w.at (length o)) [
        | yes d ↦
            let q : length (take n (drop begin o)) ≡ n = length-take-le n (drop begin o) (rw length-drop (omega (arith, s.before))) in
            rw (ext_get_or 0 (take n (drop begin o)) bs (q ∙ s.counted)
            (λ i h. get_or-take n (drop begin o) i 0 (omega arith) ∙ (get_or-drop begin o i 0 ∙ s.bytes i (omega arith) (omega (arith, s.before)))))
        | no d ↦ sets_past o w.at (take n (drop begin o)) (omega arith) ∙ sym (sets_past o w.at bs (omega arith))
      ]

pub repeated : (w w1 : Writer) (begin n : ℕ) → w1.room ≡ w.room → w1.out.ghost_name ≡ w.out.ghost_name → w1.out.now ≡ copied w.out.now begin n w.at
    → w1.at ≡ w.at + n → w1.at ≤ w.room → Repeats w w1 begin n true
repeated w w1 begin n room same e next fits = record {
  again = λ _ bs s. fitting w w1 room same bs (omega (arith, s.counted)) fits (e ∙ copied_is s);
  full = λ no. absurd (true≢false no);
  nothing = λ no. absurd (true≢false no);
}

-- ---- a literal

module _ {w w1 : Writer} (x : ℕ) (b : Bool) (lead : List ℕ) (f : Writes w w1 (lead ++ decimal x)) where
  pub literal_plus : b ≡ true → lead ≡ 32 ∷ 43 ∷ [] → Writes w w1 (32 ∷ signed (literal_of x b))
  unfolding signed
  literal_plus e d = rw e (rw d at f)

  pub literal_minus : b ≡ false → lead ≡ 32 ∷ 45 ∷ [] → Writes w w1 (32 ∷ signed (literal_of x b))
  unfolding signed
  literal_minus e d = rw e (rw d at f)

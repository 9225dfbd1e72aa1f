-- What was written into an area: one piece behind another, stopped; the two passes.
use mathlib.Core.Path.{◌≡◌, refl, ap, sym, ◌∙◌}
use mathlib.Core.List.{List, [], ◌∷◌, ◌++◌, append-nil}
use Prim.Native.Nat.{ℕ, zero, suc, ◌+◌, ◌-◌, ◌<◌, ◌≤◌}
use native.Mathlib.Omega.{arith}
use native.Mathlib.Nat.{add-zero}
use native.Mathlib.Decide.{dec_lt}
use lib.ListN.{length, get_or, set, take, drop, length-append, length-set}
use lib.Seq.{sets, sets-eq, length-sets, set_out, get_or-set_same, get_or-set_other, take_all, length-take-le, take-nil}
use Rattle.text.specs.Text.{Wrote, wrote}

-- ---- parts of lists

take_append : (n : ℕ) (us vs : List ℕ) → take n (us ++ vs) ≡ take n us ++ take (n - length us) vs
take_append zero us vs = let e : 0 - length us ≡ 0 = omega arith in rw e
take_append (suc n) [] vs = let e : suc n - 0 ≡ suc n = omega arith in rw e
take_append (suc n) (u ∷ us) vs =
    let e : suc n - suc (length us) ≡ n - length us = omega arith in
    rw e (ap (λ (l : List ℕ). u ∷ l) (take_append n us vs))

pub sets_append : (o : List ℕ) (at : ℕ) (us vs : List ℕ) → sets o at (us ++ vs) ≡ sets (sets o at us) (at + length us) vs
sets_append o at [] vs = rw add-zero
sets_append o at (u ∷ us) vs =
    let e : at + suc (length us) ≡ suc at + length us = omega arith in
    rw e (sets_append (set o at u) (suc at) us vs)

pub sets_past : (o : List ℕ) (at : ℕ) (bs : List ℕ) → length o ≤ at → sets o at bs ≡ o
sets_past o at [] h = refl
sets_past o at (b ∷ bs) h = rw (set_out o at b h) (sets_past o (suc at) bs (omega arith))

pub sets_before : (o : List ℕ) (at : ℕ) (bs : List ℕ) (i : ℕ) → i < at → get_or (sets o at bs) i 0 ≡ get_or o i 0
sets_before o at [] i h = refl
sets_before o at (b ∷ bs) i h = sets_before (set o at b) (suc at) bs i (omega arith) ∙ get_or-set_other o at i b 0 (λ e. omega arith)

sets_at : (o : List ℕ) (at : ℕ) (bs : List ℕ) (i : ℕ) → i < length bs → at + i < length o → get_or (sets o at bs) (at + i) 0 ≡ get_or bs i 0
sets_at o at [] i h g = elim h [ ]
sets_at o at (b ∷ bs) zero h g = rw add-zero (sets_before (set o at b) (suc at) bs at (omega arith) ∙ get_or-set_same o at b 0 (omega arith))
sets_at o at (b ∷ bs) (suc i) h g =
    let e : at + suc i ≡ suc at + i = omega arith in
    rw e (sets_at (set o at b) (suc at) bs i (omega arith) (rw length-set (omega arith)))

-- what is left of n places behind a list
left : (n : ℕ) (l : List ℕ) → n - length (take n l) ≡ n - length l
left n l = elim (dec_lt n (length l)) [
  | yes h ↦ omega (arith, length-take-le n l (omega arith))
  | no h ↦ rw (take_all n l (omega arith))
]

next_then : (room at r s : ℕ) (us vs : List ℕ) → r ≡ at + length (take (suc room - at) us) → s ≡ r + length (take (suc room - r) vs) → s ≡ at + length (take (suc room - at) (us ++ vs))
next_then room at r s us vs e f =
    let d : suc room - r ≡ suc room - at - length us = omega (arith, e, left (suc room - at) us) in
    rw (take_append, length-append) (omega (arith, rw d at f, e))

is_then : (room at r : ℕ) (us vs o : List ℕ) → r ≡ at + length (take (suc room - at) us) → sets (sets o at (take (room - at) us)) r (take (room - r) vs) ≡ sets o at (take (room - at) (us ++ vs))
is_then room at r us vs o e = elim (dec_lt (length us) (room - at)) [
  | yes h ↦
      let q : take (room - at) us ≡ us = take_all (room - at) us (omega arith) in
      let p : take (suc room - at) us ≡ us = take_all (suc room - at) us (omega arith) in
      let d : r ≡ at + length us = e ∙ rw p in
      let c : room - r ≡ room - at - length us = omega arith in
      rw (take_append, c, q, d) (sym (sets_append o at us (take (room - at - length us) vs)))
  | no h ↦
      let c : room - at - length us ≡ 0 = omega arith in
      let d : room - r ≡ 0 = omega (arith, left (suc room - at) us, e) in
      rw (take_append, c, d, append-nil)
]

-- ---- one behind another

module _ {room at r : ℕ} {o bs o' : List ℕ} where
  pub next : Wrote at r bs room o o' → r ≡ at + length (take (suc room - at) bs)
  next (wrote e f) = e

  pub is : Wrote at r bs room o o' → o' ≡ sets o at (take (room - at) bs)
  is (wrote e f) = f

  pub onward : Wrote at r bs room o o' → at ≤ r
  onward f = omega (arith, next f)

  pub same_length : Wrote at r bs room o o' → length o' ≡ length o
  same_length f = rw (is f) (length-sets o at (take (room - at) bs))

  pub before_kept : (i : ℕ) → Wrote at r bs room o o' → i < at → get_or o' i 0 ≡ get_or o i 0
  before_kept i f h = rw (is f) (sets_before o at (take (room - at) bs) i h)

  -- not over: all of the bytes are there
  pub fitted : Wrote at r bs room o o' → r ≤ room → r ≡ at + length bs
  fitted f h = omega (arith, next f, left (suc room - at) bs)

  pub there : (i : ℕ) → Wrote at r bs room o o' → r ≤ room → i < length bs → at + i < length o → get_or o' (at + i) 0 ≡ get_or bs i 0
  there i f h g j = rw (is f, take_all (room - at) bs (omega (arith, fitted f h))) (sets_at o at bs i g j)

module _ {room at r : ℕ} {o o1 us : List ℕ} where
  pub then : {s : ℕ} {o2 vs : List ℕ} → Wrote at r us room o o1 → Wrote r s vs room o1 o2 → Wrote at s (us ++ vs) room o o2
  then {s} {o2} {vs} f g = wrote (next_then room at r s us vs (next f) (next g)) (is g ∙ rw (is f) (is_then room at r us vs o (next f)))

  -- once over, no byte more counts
  pub stopped : (vs : List ℕ) → Wrote at r us room o o1 → room < r → Wrote at r (us ++ vs) room o o1
  stopped vs f h =
      let e : suc room - r ≡ 0 = omega arith in
      let d : room - r ≡ 0 = omega arith in
      wrote (next_then room at r r us vs (next f) (rw e (omega arith))) (is f ∙ rw d at (is_then room at r us vs o (next f)))

pub nothing : (room at : ℕ) (o : List ℕ) → Wrote at at [] room o o
nothing room at o = wrote (rw take-nil (omega arith)) (rw take-nil)

-- ---- two passes

module _ (room : ℕ) (bs z z' : List ℕ) (n : ℕ) (f : Wrote 0 n bs room z z') where
  pub measured : length bs ≤ room → n ≡ length bs
  measured h = next f ∙ rw (take_all (suc room - 0) bs (omega arith)) (omega arith)

  pub measured_over : room < length bs → n ≡ suc room
  measured_over h = omega (arith, next f, length-take-le (suc room - 0) bs (omega arith))

  pub fits : n ≤ room → length bs ≤ room
  fits h = elim (dec_lt room (length bs)) [ yes g ↦ let no_such : ⊥ = omega (arith, measured_over g) in absurd no_such | no g ↦ omega arith ]

pub written : (area bs area' : List ℕ) (r : ℕ) → Wrote 0 r bs (length area) area area' → length bs ≤ length area → area' ≡ bs ++ drop (length bs) area
written area bs area' r g h =
    let q : 0 + length bs ≤ length area = omega arith in
    let d : 0 + length bs ≡ length bs = omega arith in
    is g ∙ rw (take_all (length area - 0) bs (omega arith)) (sets-eq bs area 0 q ∙ rw d)

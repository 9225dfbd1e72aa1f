-- The bits of a number: one is set, and the lowest that is set is taken away.
use mathlib.Core.Path.{◌≡◌, refl, ◌∙◌}
use mathlib.Core.Bool.{◌||◌}
use Prim.Native.Nat.{ℕ, zero, suc, ◌+◌, ◌-◌, ◌*◌, ◌/◌, ◌%◌, ◌^◌, ◌<◌}
use native.Mathlib.Omega.{arith}
use lib.Dec.{eqb}
use lib.Bits.{bit_and, bit_or, and_step, and_self, and_le_r, or_step}
use lib.Count.{count_trailing_zeros, trailing_le}
use borrow.Author.Tests.{eqb-true, eqb-false}
use Rattle.rules.specs.AtMostOne.{bit}
use Rattle.rules.specs.Lists.{all, up_to}
use Rattle.rules.proofs.Bools.{by_cases, or_none}
use Rattle.rules.proofs.Member.{all_out, up_to_in}
use Rattle.marks.specs.Marks.{WithBit}
use Rattle.marks.proofs.Bits.{bit_none, bit_more}

-- ---- one bit more

bit_of_or : (i x y : ℕ) → bit i (bit_or x y) ≡ (bit i y || bit i x)
unfolding bit
bit_of_or zero x y =
    by_cases (eqb (y % 2) 1) (λ h. let e : bit_or x y % 2 ≡ 1 = omega (arith, or_step x y, eqb-true (y % 2) 1 h) in rw (h, e))
    (λ h. let e : bit_or x y % 2 ≡ x % 2 = omega (arith, or_step x y, eqb-false (y % 2) 1 h) in rw (h, e))
bit_of_or (suc i) x y =
    let e : bit_or x y / 2 ≡ bit_or (x / 2) (y / 2) = omega (arith, or_step x y) in
    rw e (bit_of_or i (x / 2) (y / 2))

power_is : (j : ℕ) → j < 16 → 1 * 2 ^ j % 65536 ≡ 2 ^ j
power_is j h =
    eqb-true (1 * 2 ^ j % 65536) (2 ^ j) (all_out (λ (i : ℕ). eqb (1 * 2 ^ i % 65536) (2 ^ i)) (up_to 0 16) (unfold all up_to in refl) j (up_to_in 0 16 j (omega arith) h))

power_bit : (i j : ℕ) → bit i (2 ^ j) ≡ eqb i j
power_bit i j =
    let e : 0 + 2 ^ j ≡ 2 ^ j = omega arith in
    (rw e at (bit_more j i 0 (bit_none j))) ∙ rw (bit_none i, or_none (eqb i j))

pub besides_is : (v r : ℕ) → WithBit (r % 16) v (bit_or v (1 * 2 ^ (r % 16) % 65536))
besides_is v r = record { is = λ i. rw (power_is (r % 16) (omega arith), bit_of_or i v (2 ^ (r % 16)), power_bit i (r % 16)) }

-- ---- the lowest bit less

pub lowest_fits : (x : ℕ) → count_trailing_zeros 16 x < 2 ^ 64
lowest_fits x = omega (arith, trailing_le 16 x)

pub lowest_less : (x : ℕ) → (x ≡ 0 → ⊥) → bit_and x (x - 1) < x
lowest_less x z = omega (arith, z, and_le_r x (x - 1))

-- half of what is left: of an odd number, and of an even one
half_odd : (x : ℕ) → x % 2 ≡ 1 → bit_and x (x - 1) / 2 ≡ x / 2
half_odd x h =
    let same : (x - 1) / 2 ≡ x / 2 = omega arith in
    let e : bit_and x (x - 1) / 2 ≡ bit_and (x / 2) ((x - 1) / 2) = omega (arith, and_step x (x - 1)) in
    e ∙ rw same (and_self (x / 2))

half_even : (x : ℕ) → x % 2 ≡ 0 → (x ≡ 0 → ⊥) → bit_and x (x - 1) / 2 ≡ bit_and (x / 2) (x / 2 - 1)
half_even x h z =
    let less : (x - 1) / 2 ≡ x / 2 - 1 = omega (arith, z) in
    let e : bit_and x (x - 1) / 2 ≡ bit_and (x / 2) ((x - 1) / 2) = omega (arith, and_step x (x - 1)) in
    e ∙ rw less

-- every bit but that is as it was
pub lowest_gone : (n x i : ℕ) → x < 2 ^ n → (x ≡ 0 → ⊥) → (i ≡ count_trailing_zeros n x → ⊥) → bit i (bit_and x (x - 1)) ≡ bit i x
unfolding bit count_trailing_zeros
lowest_gone zero x i l z o = absurd (z (omega arith))
lowest_gone (suc n) x zero l z o =
    by_cases (eqb (x % 2) 1) (λ h. let e = eqb-true (x % 2) 1 h in absurd (o (rw e)))
    (λ h. let e : bit_and x (x - 1) % 2 ≡ x % 2 = omega (arith, and_step x (x - 1), eqb-false (x % 2) 1 h) in rw e)
lowest_gone (suc n) x (suc i) l z o =
    by_cases (eqb (x % 2) 1) (λ h. rw (half_odd x (eqb-true (x % 2) 1 h)))
    (λ h.
    let e : x % 2 ≡ 0 = omega (arith, eqb-false (x % 2) 1 h) in
    rw (half_even x e z) (lowest_gone n (x / 2) i (omega arith) (λ q. z (omega arith)) (λ q. o (rw (e, q)))))

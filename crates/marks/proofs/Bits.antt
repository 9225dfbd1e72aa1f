-- Bits of a number: by a division, and after the power of a clear bit is added.
use mathlib.Core.Path.{◌≡◌, refl}
use mathlib.Core.Bool.{false, ◌||◌}
use Prim.Native.Nat.{ℕ, zero, suc, ◌+◌, ◌/◌, ◌%◌, ◌^◌, ◌<◌}
use native.Mathlib.Omega.{arith}
use lib.Dec.{eqb}
use lib.Pow.{shr-shr}
use borrow.Author.Tests.{eqb-true, eqb-false, eq-eqb, ne_eqb}
use Rattle.rules.specs.AtMostOne.{bit}
use Rattle.rules.proofs.Bools.{same_test}

pub bit_is : (j x : ℕ) → eqb (x / 2 ^ j % 2) 1 ≡ bit j x
unfolding bit
bit_is zero x =
    let e : x / 2 ^ 0 ≡ x = omega arith in
    rw e
bit_is (suc j) x =
    let e : 1 + j ≡ suc j = omega arith in
    rw (← e, ← shr-shr x 1 j) (bit_is j (x / 2))

pub bit_none : (j : ℕ) → bit j 0 ≡ false
unfolding bit
bit_none zero = refl
bit_none (suc j) = bit_none j

suc_test : (k j : ℕ) → eqb (suc k) (suc j) ≡ eqb k j
suc_test k j = same_test _ _ (λ e. eq-eqb k j (omega (arith, eqb-true (suc k) (suc j) e))) (λ e. eq-eqb (suc k) (suc j) (omega (arith, eqb-true k j e)))

-- a clear bit is set by its power, and the others stay
pub bit_more : (j k x : ℕ) → bit j x ≡ false → bit k (x + 2 ^ j) ≡ (eqb k j || bit k x)
unfolding bit
bit_more zero zero x c =
    let even = eqb-false (x % 2) 1 c in
    let e : (x + 2 ^ 0) % 2 ≡ 1 = omega arith in
    rw e
bit_more zero (suc k) x c =
    let even = eqb-false (x % 2) 1 c in
    let e : (x + 2 ^ 0) / 2 ≡ x / 2 = omega arith in
    rw (e, ne_eqb (suc k) 0 (λ h. omega arith))
bit_more (suc j) zero x c =
    let e : (x + 2 ^ suc j) % 2 ≡ x % 2 = omega arith in
    rw (e, ne_eqb 0 (suc j) (λ h. omega arith))
bit_more (suc j) (suc k) x c =
    let e : (x + 2 ^ suc j) / 2 ≡ x / 2 + 2 ^ j = omega arith in
    rw (e, suc_test k j) (bit_more j k (x / 2) c)

-- and no more bits are needed
pub bit_room : (h j x : ℕ) → j < h → x < 2 ^ h → bit j x ≡ false → x + 2 ^ j < 2 ^ h
unfolding bit
bit_room zero j x l m c = omega arith
bit_room (suc h) zero x l m c = let even = eqb-false (x % 2) 1 c in omega arith
bit_room (suc h) (suc j) x l m c = omega (arith, bit_room h j (x / 2) (omega arith) (omega arith) c)

-- Literals against the definitions: a law for each way out of each method.
use mathlib.Core.Path.{◌≡◌, refl, ◌∙◌, ap}
use mathlib.Core.Bool.{Bool, true, false}
use Prim.Native.Nat.{ℕ, zero, suc, ◌+◌, ◌*◌, ◌-◌, ◌/◌, ◌%◌, ◌<◌}
use native.Mathlib.Omega.{arith}
use borrow.Author.Tests.{eq-eqb, ne_eqb}
use Rattle.rules.specs.Literal.{opposite}
use Rattle.clause.specs.declared.Literal.{Literal}
use Rattle.clause.specs.Literals.{signed, literal_of}

abbrev coded : ℕ → Literal
coded n = record { code = n }

even : (n : ℕ) → n % 2 ≡ 0 → literal_of (coded n) ≡ signed (n / 2) true
unfolding literal_of
even n e = ap (signed (n / 2)) (eq-eqb (n % 2) 0 e)

odd : (n : ℕ) → (n % 2 ≡ 0 → ⊥) → literal_of (coded n) ≡ signed (n / 2) false
unfolding literal_of
odd n e = ap (signed (n / 2)) (ne_eqb (n % 2) 0 e)

pub new_positive : (x : ℕ) (b : Bool) → b ≡ true → literal_of (coded (2 * x)) ≡ signed x b
new_positive x b e =
    let h : 2 * x / 2 ≡ x = omega arith in
    even (2 * x) (omega arith) ∙ rw (h, e)

pub new_negative : (x : ℕ) (b : Bool) → b ≡ false → literal_of (coded (2 * x + 1)) ≡ signed x b
new_negative x b e =
    let h : (2 * x + 1) / 2 ≡ x = omega arith in
    odd (2 * x + 1) (λ z. omega arith) ∙ rw (h, e)

pub negate_positive : (l : Literal) → l.code % 2 ≡ 0 → literal_of (coded (l.code + 1)) ≡ opposite (literal_of l)
unfolding signed
negate_positive l e =
    let h : (l.code + 1) / 2 ≡ l.code / 2 = omega arith in
    odd (l.code + 1) (λ z. omega arith) ∙ rw (h, even l.code e)

pub negate_negative : (l : Literal) → (l.code % 2 ≡ 0 → ⊥) → literal_of (coded (l.code - 1)) ≡ opposite (literal_of l)
unfolding signed
negate_negative l e =
    let r : l.code % 2 < 2 = omega arith in
    let one : l.code % 2 ≡ 1 = below (l.code % 2) r e in
    let h : (l.code - 1) / 2 ≡ l.code / 2 = omega arith in
    even (l.code - 1) (omega arith) ∙ rw (h, odd l.code e)
  where
    below : (n : ℕ) → n < 2 → (n ≡ 0 → ⊥) → n ≡ 1
    below zero l e = absurd (e refl)
    below (suc zero) l e = refl
    below (suc (suc n)) l e = omega arith

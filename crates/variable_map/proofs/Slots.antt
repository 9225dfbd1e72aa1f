-- Every origin that a catalogue can give has a slot of its own.
use mathlib.Core.Path.{◌≡◌, refl, sym, ◌∙◌, ap}
use mathlib.Core.Bool.{true, cond}
use Prim.Native.Nat.{ℕ, ◌+◌, ◌*◌, ◌-◌, ◌/◌, ◌%◌, ◌<◌}
use native.Mathlib.Omega.{arith}
use lib.Dec.{ltb}
use borrow.Author.Tests.{lt-ltb, le-ltb, ltb-true}
use Rattle.rules.specs.Catalogue.{root, part, range, union}
use Rattle.rules.specs.Variables.{Origin, chosen, forbid, one, violation, gate}
use Rattle.rules.proofs.Bools.{and_left, and_right}
use Rattle.variable_map.specs.Mapping.{in_tables, slot_of}

unslot : ℕ → Origin
unslot s =
    cond (ltb s 1) (chosen root)
    (cond (ltb s 1025) (chosen (part (s - 1)))
    (cond (ltb s 1089) (one (s - 1025))
    (cond (ltb s 1601) (violation (s - 1089))
    (cond (ltb s 2113) (gate (range (s - 1601)))
    (cond (ltb s 2241) (gate (union (s - 2113))) (forbid ((s - 2241) / 10) ((s - 2241) % 10)))))))

module _ (s n : ℕ) where
  from_part : s ≡ 1 + n → n < 1024 → unslot s ≡ chosen (part n)
  unfolding unslot
  from_part e h =
      let q : s - 1 ≡ n = omega arith in
      rw (le-ltb s 1 (omega arith), lt-ltb s 1025 (omega arith), q)

  from_one : s ≡ 1025 + n → n < 64 → unslot s ≡ one n
  unfolding unslot
  from_one e h =
      let q : s - 1025 ≡ n = omega arith in
      rw (le-ltb s 1 (omega arith), le-ltb s 1025 (omega arith), lt-ltb s 1089 (omega arith), q)

  from_violation : s ≡ 1089 + n → n < 512 → unslot s ≡ violation n
  unfolding unslot
  from_violation e h =
      let q : s - 1089 ≡ n = omega arith in
      rw (le-ltb s 1 (omega arith), le-ltb s 1025 (omega arith), le-ltb s 1089 (omega arith), lt-ltb s 1601 (omega arith), q)

  from_range : s ≡ 1601 + n → n < 512 → unslot s ≡ gate (range n)
  unfolding unslot
  from_range e h =
      let q : s - 1601 ≡ n = omega arith in
      rw (le-ltb s 1 (omega arith), le-ltb s 1025 (omega arith), le-ltb s 1089 (omega arith), le-ltb s 1601 (omega arith), lt-ltb s 2113 (omega arith), q)

  from_union : s ≡ 2113 + n → n < 128 → unslot s ≡ gate (union n)
  unfolding unslot
  from_union e h =
      let q : s - 2113 ≡ n = omega arith in
      rw (
        le-ltb s 1 (omega arith),
        le-ltb s 1025 (omega arith),
        le-ltb s 1089 (omega arith),
        le-ltb s 1601 (omega arith),
        le-ltb s 2113 (omega arith),
        lt-ltb s 2241 (omega arith),
        q,
      )

  from_forbid : (j : ℕ) → s ≡ 2241 + 10 * n + j → j < 10 → unslot s ≡ forbid n j
  unfolding unslot
  from_forbid j e h =
      let q : (s - 2241) / 10 ≡ n = omega arith in
      let r : (s - 2241) % 10 ≡ j = omega arith in
      rw (
        le-ltb s 1 (omega arith),
        le-ltb s 1025 (omega arith),
        le-ltb s 1089 (omega arith),
        le-ltb s 1601 (omega arith),
        le-ltb s 2113 (omega arith),
        le-ltb s 2241 (omega arith),
        q,
        r,
      )

unslot_slot : (o : Origin) → in_tables o ≡ true → unslot (slot_of o) ≡ o
unfolding in_tables slot_of
unslot_slot (chosen root) e = unfold unslot in refl
unslot_slot (chosen (part p)) e = from_part (1 + p) p refl (ltb-true p 1024 e)
unslot_slot (forbid n j) e = from_forbid (2241 + 10 * n + j) n j refl (ltb-true j 10 (and_right (ltb n 64) _ e))
unslot_slot (one n) e = from_one (1025 + n) n refl (ltb-true n 64 e)
unslot_slot (violation r) e = from_violation (1089 + r) r refl (ltb-true r 512 e)
unslot_slot (gate (range r)) e = from_range (1601 + r) r refl (ltb-true r 512 e)
unslot_slot (gate (union u)) e = from_union (2113 + u) u refl (ltb-true u 128 e)

pub slot_apart : (a b : Origin) → in_tables a ≡ true → in_tables b ≡ true → slot_of a ≡ slot_of b → a ≡ b
slot_apart a b p q e = sym (unslot_slot a p) ∙ (ap unslot e ∙ unslot_slot b q)

pub slot_below : (o : Origin) → in_tables o ≡ true → slot_of o < 2881
unfolding in_tables slot_of
slot_below (chosen root) e = omega arith
slot_below (chosen (part p)) e = omega (arith, ltb-true p 1024 e)
slot_below (forbid n j) e = omega (arith, ltb-true n 64 (and_left (ltb n 64) _ e), ltb-true j 10 (and_right (ltb n 64) _ e))
slot_below (one n) e = omega (arith, ltb-true n 64 e)
slot_below (violation r) e = omega (arith, ltb-true r 512 e)
slot_below (gate (range r)) e = omega (arith, ltb-true r 512 e)
slot_below (gate (union u)) e = omega (arith, ltb-true u 128 e)

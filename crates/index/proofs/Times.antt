-- How often a number stands in a list.
use mathlib.Core.Path.{◌≡◌, refl, ◌∙◌}
use mathlib.Core.List.Memᴰ
use mathlib.Core.List.{List, [], ◌∷◌, ◌++◌}
use Prim.Native.Nat.{ℕ, ◌+◌, ◌<◌, ◌≤◌}
use native.Mathlib.Omega.{arith}
use native.Mathlib.Decide.{ℕ_discrete}
use lib.ListN.{length, length-append}
use borrow.Author.Tests.{eq-eqb, ne_eqb}
use Rattle.rules.specs.Called.{◌∈◌}
use Rattle.rules.specs.Lists.{count, snoc, concat_map}
use Rattle.index.specs.Members.{times}

module _ (x : ℕ) where
  times_here : (xs : List ℕ) → times x (x ∷ xs) ≡ 1 + times x xs
  unfolding times count
  times_here xs = rw (eq-eqb x x refl)

  times_other : (y : ℕ) (xs : List ℕ) → (x ≡ y → ⊥) → times x (y ∷ xs) ≡ times x xs
  unfolding times count
  times_other y xs e = rw (ne_eqb x y e) (omega arith)

  pub times_append : (xs ys : List ℕ) → times x (xs ++ ys) ≡ times x xs + times x ys
  unfolding times count
  times_append [] ys = omega arith
  times_append (z ∷ xs) ys = let e = times_append xs ys in omega arith

  pub times_snoc : (xs : List ℕ) → times x (snoc xs x) ≡ times x xs + 1
  unfolding snoc
  times_snoc xs = times_append xs (x ∷ []) ∙ rw (times_here []) (unfold times count in refl)

  pub times_in : (xs : List ℕ) → 0 < times x xs → x ∈ xs
  times_in [] h = let none : ⊥ = unfold times count in omega arith in absurd none
  times_in (y ∷ xs) h = elim (ℕ_discrete x y) [
    | yes e ↦ Memᴰ.head e
    | no e ↦ Memᴰ.tail (times_in xs (rw (times_other y xs e) at h))
  ]

  -- each time it gives something
  pub times_length : (f : ℕ → List ℕ) (xs : List ℕ) → 0 < length (f x) → times x xs ≤ length (concat_map f xs)
  unfolding concat_map
  times_length f [] h = unfold times count in omega arith
  times_length f (y ∷ xs) h = elim (ℕ_discrete x y) [
    | yes e ↦ rw (← e, times_here xs, length-append (f x) (concat_map f xs)) (let l = times_length f xs h in omega arith)
    | no e ↦ rw (times_other y xs e, length-append (f y) (concat_map f xs)) (let l = times_length f xs h in omega arith)
  ]

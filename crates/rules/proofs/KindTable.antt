-- The table of kinds: what a test finds of every row holds of what is looked up.
use mathlib.Core.Path.{◌≡◌, refl}
use mathlib.Core.Bool.{Bool, true, false}
use mathlib.Core.List.{List, [], ◌∷◌}
use mathlib.Core.Option.{Option, some}
use Prim.Native.Nat.{ℕ}
use native.Mathlib.Omega.{arith}
use lib.Dec.{eqb}
use borrow.Author.Tests.{eqb-true}
use Rattle.rules.specs.Lists.{all}
use Rattle.rules.specs.Records.{Kind, look_up}
use Rattle.rules.proofs.Bools.{and_left, and_right}

pub not_one : ◌≡◌ {A = ℕ} 0 1 → ⊥
not_one z = omega arith

pub looked_up : (f : ℕ × Kind × ℕ → Bool) (b : ℕ) (es : List (ℕ × Kind × ℕ)) (k : Kind × ℕ) → all f es ≡ true → look_up b es ≡ some k
    → f (b, k.0, k.1) ≡ true
unfolding look_up all
looked_up f b [] k r e = absurd (not_one (cc))
looked_up f b (x ∷ es) k r e = go (eqb b x.0) refl e (looked_up f b es k)
  where
    go : (q : Bool) → eqb b x.0 ≡ q → ◌≡◌ {A = Option (Kind × ℕ)} (elim q [ true ↦ some (x.1, x.2) | false ↦ look_up b es ]) (some k)
        → (all f es ≡ true → look_up b es ≡ some k → f (b, k.0, k.1) ≡ true) → f (b, k.0, k.1) ≡ true
    go true q e h =
        let a : x.1 ≡ k.0 = cc in
        let l : x.2 ≡ k.1 = cc in
        rw (← a, ← l, eqb-true b x.0 q) (and_left (f x) (all f es) r)
    go false q e h = h (and_right (f x) (all f es) r) e

-- A loop over a list: a step for each of its numbers.
use mathlib.Core.Path.{◌≡◌, refl, sym, ◌∙◌, ap}
use mathlib.Core.List.{List, [], ◌∷◌}
use Prim.Native.Nat.{ℕ, ◌+◌, ◌<◌, ◌≤◌}
use native.Mathlib.Numerals.{add-one}
use native.Mathlib.Omega.{arith}
use lib.ListN.{length, get_or, take}
use lib.Seq.{take_all, take-suc}
use Rattle.rules.specs.Lists.{fold}
use Rattle.rules.specs.Catalogue.{Catalogue}
use Rattle.rules.specs.State.{State}
use Rattle.rules.proofs.DistinctEnough.{fold_append}
use Rattle.marked.specs.Marked.{listed, Marked}
use Rattle.marked.proofs.Laws.{length_listed}
use Rattle.encoder.specs.declared.State as encoder
use Rattle.encoder.specs.Held.{Reading}
use Rattle.encoder.specs.Does.{StateDoes, IsGood, regions_of}
use Rattle.encoder.proofs.Does.{does_same, does_none, does_then, good_then}

-- the first j numbers of xs have had their step
pub record Passed (c : Catalogue) (f : ℕ → State → State) (xs : List ℕ) (x₀ x : encoder.State) (j : ℕ) : Type 0 where
  pub within : j ≤ length xs
  pub good : IsGood c x
  pub did : StateDoes c (λ v. fold f (take j xs)) x₀ x

pub one_more : (f : ℕ → State → State) (xs : List ℕ) (j : ℕ) (s : State) → j < length xs → f (get_or xs j 0) (fold f (take j xs) s) ≡ fold f (take (j + 1) xs) s
unfolding fold
one_more f xs j s h = rw (add-one j, take-suc xs j 0 h) (sym (fold_append f (take j xs) (get_or xs j 0 ∷ []) s))

module _ {c : Catalogue} {f : ℕ → State → State} {xs : List ℕ} {x₀ : encoder.State} where
  pub pass_start : IsGood c x₀ → Passed c f xs x₀ x₀ 0
  unfolding fold
  pass_start g = record { within = omega arith; good = g; did = does_none (λ v s. refl) }

  module _ {x : encoder.State} {j : ℕ} (p : Passed c f xs x₀ x j) where
    pub pass_step : {x' : encoder.State} (y : ℕ) → y ≡ get_or xs j 0 → j < length xs → StateDoes c (λ v. f y) x x' → Passed c f xs x₀ x' (j + 1)
    pass_step y e h d = record { within = omega arith; good = good_then d p.good; did = does_same (does_then p.did d) (λ v t. rw e (one_more f xs j t h)) }

    pub pass_end : length xs ≤ j → StateDoes c (λ v. fold f xs) x₀ x
    pass_end h = does_same p.did (λ v t. rw (take_all j xs h))

-- ---- over the list at hand, which is as it was

-- a step leaves it
pub same_hand : {c : Catalogue} {F : Reading → State → State} {m : ℕ} {x x' : encoder.State} → StateDoes c F x x' → IsGood c x → Marked 14 15 m (regions_of x)
    → listed m 14 (regions_of x') ≡ listed m 14 (regions_of x)
same_hand {m = m} d g k = rw d.limits (((d.did.is g.clauses []).beside g.good).list m k)

module _ {c : Catalogue} {f : ℕ → State → State} {m : ℕ} {x₀ x : encoder.State} {j : ℕ} (p : Passed c f (listed m 14 (regions_of x₀)) x₀ x j) where
  pub hand_step : IsGood c x₀ → Marked 14 15 m (regions_of x₀) → {x' : encoder.State} (y : ℕ) → y ≡ get_or (listed m 14 (regions_of x)) j 0 → j < m
      → StateDoes c (λ v. f y) x x' → Passed c f (listed m 14 (regions_of x₀)) x₀ x' (j + 1)
  hand_step g k y e h d = pass_step p y (e ∙ ap (λ (ys : List ℕ). get_or ys j 0) (same_hand p.did g k)) (rw (length_listed k) h) d

  pub hand_end : Marked 14 15 m (regions_of x₀) → m ≤ j → StateDoes c (λ v. fold f (listed m 14 (regions_of x₀))) x₀ x
  hand_end k h = pass_end p (rw (length_listed k) h)

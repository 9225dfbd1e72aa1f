-- A walk along an owner's chain takes a rule for each of its records: those that are passed are others'.
use mathlib.Core.Path.{◌≡◌, sym, ◌∙◌}
use mathlib.Core.Bool.{false}
use mathlib.Core.Logic.{◌⊎◌, inl, inr}
use mathlib.Core.List.{List}
use Prim.Native.Nat.{ℕ, zero, suc, ◌+◌, ◌-◌, ◌<◌, ◌≤◌}
use native.Mathlib.Omega.{arith}
use Rattle.rules.specs.Lists.{fold, when, up_to}
use Rattle.rules.specs.Catalogue.{Owner, Catalogue}
use Rattle.rules.specs.Opening.{Opening}
use Rattle.rules.specs.State.{State}
use Rattle.words.specs.Words.{words}
use Rattle.tables.specs.declared.Counts.{Counts}
use Rattle.cache.specs.Areas.{catalogue}
use Rattle.index.specs.Chains.{First, row_of, requirements_by_owner, constraints_by_owner, key_of, Skips}
use Rattle.index.proofs.Owners.{skips_requirements, skips_constraints}
use Rattle.encoder.specs.declared.State as encoder
use Rattle.encoder.specs.Held.{Reading}
use Rattle.encoder.specs.Did.{on_opening}
use Rattle.encoder.proofs.Does.{does_same}
use Rattle.owners.specs.declared.Rule.{Rule}
use Rattle.owners.specs.declared.Rule.TheVariants.{OpenRequirement, OpenConstraint, QueueRequirement, QueueConstraint}
use Rattle.owners.specs.Owners.{is_of, rule_of, cardinal}
use Rattle.owners.proofs.Rules.{Ruled, fold_last}

-- ---- the walk

module _ (k : Counts) (m u t : List ℕ) (w : Rule) (o : Owner) where
  pub along_requirements : {x from r : ℕ} → x ≡ row_of o → (w ≡ OpenRequirement) ⊎ (w ≡ QueueRequirement) → First k.requirements (key_of requirements_by_owner (words t)) x from r
      → Skips (cardinal k w) (is_of (catalogue k m u t) w o) from r
  unfolding cardinal is_of
  along_requirements e (inl q) f = rw q (skips_requirements k m u t o e f)
  along_requirements e (inr q) f = rw q (skips_requirements k m u t o e f)

  pub along_constraints : {x from r : ℕ} → x ≡ row_of o → (w ≡ OpenConstraint) ⊎ (w ≡ QueueConstraint) → First k.constraints (key_of constraints_by_owner (words t)) x from r
      → Skips (cardinal k w) (is_of (catalogue k m u t) w o) from r
  unfolding cardinal is_of
  along_constraints e (inl q) f = rw q (skips_constraints k m u t o e f)
  along_constraints e (inr q) f = rw q (skips_constraints k m u t o e f)

module _ (k : Counts) (w : Rule) where
  pub below_requirements : {i : ℕ} → i < cardinal k w → (w ≡ OpenRequirement) ⊎ (w ≡ QueueRequirement) → i < k.requirements
  unfolding cardinal
  below_requirements h (inl q) = rw q at h
  below_requirements h (inr q) = rw q at h

  pub below_constraints : {i : ℕ} → i < cardinal k w → (w ≡ OpenConstraint) ⊎ (w ≡ QueueConstraint) → i < k.constraints
  unfolding cardinal
  below_constraints h (inl q) = rw q at h
  below_constraints h (inr q) = rw q at h

-- ---- what is passed does nothing

passed : (c : Catalogue) (v : Reading) (w : Rule) (o : Owner) (i : ℕ) (s : Opening) → is_of c w o i ≡ false → rule_of c v w o i s ≡ s
unfolding is_of rule_of when
passed c v OpenRequirement o i s e = rw e
passed c v OpenConstraint o i s e = rw e
passed c v QueueRequirement o i s e = rw e
passed c v QueueConstraint o i s e = rw e

fold_passed : {S : Type 0} (f : ℕ → S → S) (i d : ℕ) → ((j : ℕ) (s : S) → i ≤ j → j < i + d → f j s ≡ s) → (s : S) → fold f (up_to 0 (i + d)) s ≡ fold f (up_to 0 i) s
fold_passed f i zero h s = let e : i + 0 ≡ i = omega arith in rw e
fold_passed f i (suc d) h s =
    let e : i + suc d ≡ i + d + 1 = omega arith in
    rw e (sym (fold_last f (i + d) s) ∙ (h (i + d) (fold f (up_to 0 (i + d)) s) (omega arith) (omega arith) ∙ fold_passed f i d (λ j u a b. h j u a (omega arith)) s))

module _ (c : Catalogue) (w : Rule) (o : Owner) {n i r : ℕ} (z : Skips n (is_of c w o) i r) where
  all_passed : (v : Reading) (s : State) → on_opening (fold (rule_of c v w o) (up_to 0 i)) s ≡ on_opening (fold (rule_of c v w o) (up_to 0 r)) s
  unfolding on_opening
  all_passed v s =
      let onward = z.onward in
      let q : i + (r - i) ≡ r = omega arith in
      let e = rw q at (fold_passed (rule_of c v w o) i (r - i) (λ j u a b. passed c v w o j u (z.none j a (omega arith))) s.opening) in
      rw e

  pub ruled_along : {count : ℕ} {x₀ x : encoder.State} → count ≡ n → Ruled c w o count x₀ i x → Ruled c w o count x₀ r x
  ruled_along e y =
      let inside = z.inside in
      record { most = omega arith; good = y.good; does = does_same y.does all_passed }

-- Places of origins: a new one's is the number of variables, and no other changes.
use mathlib.Core.Path.{◌≡◌, ◌∙◌, ap, sym}
use mathlib.Core.Bool.{Bool, true, false, not, ◌||◌, true≢false}
use mathlib.Core.List.{List, [], ◌∷◌, ◌++◌}
use Prim.Native.Nat.{ℕ, suc, ◌+◌, ◌-◌, ◌<◌, ◌≤◌}
use native.Mathlib.Omega.{arith}
use lib.ListN.{length}
use Rattle.rules.specs.Lists.{any, index_of, snoc, unless}
use Rattle.rules.specs.Variables.{Origin, same_origin, known, variable_of, with_variable}
use Rattle.rules.proofs.Bools.{by_cases}
use Rattle.rules.proofs.Grows.{ending}
use Rattle.rules.proofs.ListLaws.{any_snoc}
use Rattle.rules.proofs.Places.{origin_self, keeps_variable}
use Rattle.std.specs.Prelude.{Option, None, Some, SomeIff, is_none}
use Rattle.variable_map.specs.declared.Origin as code
use Rattle.variable_map.specs.Mapping.{origin_of, place, found}

index_end : {A : Type 0} (f : A → Bool) (xs : List A) (x : A) → any f xs ≡ false → f x ≡ true → index_of f (xs ++ (x ∷ [])) ≡ length xs
unfolding any index_of
index_end f [] x e h = rw (h, index_of)
index_end f (y ∷ xs) x e h = by_cases (f y) (λ q. absurd (true≢false (rw q at e))) (λ q. rw (q, index_of) (ap suc (index_end f xs x (rw q at e) h)))

module _ (vs : List Origin) (o : Origin) where
  pub known_after : (a : Origin) → known (snoc vs o) a ≡ (known vs a || same_origin a o)
  unfolding known
  known_after a = any_snoc (same_origin a) vs o

  -- a new origin's variable is the number of those before it
  pub variable_new : known vs o ≡ false → variable_of (snoc vs o) o ≡ length vs
  unfolding known variable_of snoc
  variable_new e = index_end (same_origin o) vs o e (origin_self o)

  pub place_new : known vs o ≡ false → place (snoc vs o) o ≡ length vs + 1
  unfolding place
  place_new e = rw (known_after o, e, origin_self o, variable_new e)

  pub place_other : (a : Origin) → same_origin a o ≡ false → place (snoc vs o) a ≡ place vs a
  unfolding place
  place_other a h = by_cases (known vs a) (λ e. rw (known_after a, e, kept e)) (λ e. rw (known_after a, e, h))
    where
      kept : known vs a ≡ true → variable_of (snoc vs o) a ≡ variable_of vs a
      kept e = unfold snoc in (keeps_variable (ending vs (o ∷ [])) a e).1

  pub place_known : known vs o ≡ true → place vs o ≡ variable_of vs o + 1
  unfolding place
  place_known e = rw e

  pub place_unknown : known vs o ≡ false → place vs o ≡ 0
  unfolding place
  place_unknown e = rw e

  pub placed : (p : ℕ) → p ≡ place vs o → 0 < p → known vs o ≡ true
  placed p e h = by_cases (known vs o) (λ k. k) (λ k. let z = e ∙ place_unknown k in let no : ⊥ = omega arith in absurd no)

  pub unplaced : (p : ℕ) → p ≡ place vs o → p ≤ 0 → known vs o ≡ false
  unplaced p e h = by_cases (known vs o) (λ k. let z = e ∙ place_known k in let no : ⊥ = omega arith in absurd no) (λ k. k)

  pub with_known : known vs o ≡ true → with_variable o vs ≡ vs
  unfolding with_variable unless
  with_known e = rw e

  pub with_new : known vs o ≡ false → with_variable o vs ≡ snoc vs o
  unfolding with_variable unless
  with_new e = rw e

-- ---- what was found

module _ (vs : List Origin) (o : Origin) where
  found_there : known vs o ≡ true → found vs o ≡ Some (variable_of vs o)
  unfolding found
  found_there k = rw k

  found_not : known vs o ≡ false → found vs o ≡ None
  unfolding found
  found_not k = rw k

  -- by the place in a slot
  pub read_place : (p : ℕ) (r : Option ℕ) → p ≡ place vs o → SomeIff r (1 ≤ p) (p - 1) → r ≡ found vs o
  read_place p None e h = by_cases (known vs o) (λ k. absurd (h (omega (arith, e, place_known vs o k)))) (λ k. sym (found_not k))
  read_place p (Some x) e h =
      by_cases (known vs o)
      (λ k. let z : x ≡ variable_of vs o = omega (arith, h.1, e, place_known vs o k) in sym (found_there k ∙ ap Some (sym z)))
      (λ k. let z : p ≡ 0 = e ∙ place_unknown vs o k in let no : ⊥ = omega (arith, h.0) in absurd no)

-- for callers
module _ (vs : List Origin) (o : Origin) (r : Option ℕ) (e : r ≡ found vs o) where
  pub found_known : (x : ℕ) → r ≡ Some x → (known vs o ≡ true) × (x ≡ variable_of vs o)
  found_known x q =
      by_cases (known vs o)
      (λ k. let f = found_there vs o k in let z : x ≡ variable_of vs o = cc in (k, z))
      (λ k. let f = found_not vs o k in let no : ⊥ = cc in absurd no)

  pub found_none : r ≡ None → known vs o ≡ false
  found_none q = by_cases (known vs o) (λ k. let f = found_there vs o k in let no : ⊥ = cc in absurd no) (λ k. k)

-- nothing was found where there is none
pub new_is : (vs : List Origin) (w : code.Origin) (o : Origin) (r : Option ℕ) → origin_of w ≡ o → r ≡ found vs (origin_of w) → is_none r ≡ not (known vs o)
new_is vs w o r i e = by_cases (known vs o) (λ k. rw (e, i, found_there vs o k, k)) (λ k. rw (e, i, found_not vs o k, k))

-- Requirements against the definitions: a law for each way out of each method.
use mathlib.Core.Path.{◌≡◌, refl}
use Prim.Native.Nat.{ℕ}
use borrow.Author.Tests.{eq-eqb, ne_eqb}
use Rattle.std.specs.Prelude.{Some, None}
use Rattle.rules.specs.Catalogue.{Goal, range, union}
use Rattle.rules.specs.Items as rules
use Rattle.requirement.specs.declared.Owner.TheVariants.{Root, Part}
use Rattle.requirement.specs.declared.Requirement.{Requirement}
use Rattle.requirement.specs.declared.Requirement.TheVariants.{Single, Union}
use Rattle.requirement.specs.Requirements.{goal_of, form_of, number_of, OwnerOf, ConditionOf}

-- ---- owners and conditions by their numbers

module _ (n : ℕ) where
  pub root_made : n ≡ 65535 → OwnerOf n Root
  unfolding rules.owner_of
  root_made e = record { is = rw (eq-eqb n 65535 e); number = rw e }

  pub part_made : (n ≡ 65535 → ⊥) → OwnerOf n (Part n)
  unfolding rules.owner_of
  part_made e = record { is = rw (ne_eqb n 65535 e); number = refl }

  pub no_condition_made : n ≡ 65535 → ConditionOf n None
  unfolding rules.condition_of
  no_condition_made e = record { is = rw (eq-eqb n 65535 e); number = rw e }

  pub condition_made : (n ≡ 65535 → ⊥) → ConditionOf n (Some n)
  unfolding rules.condition_of
  condition_made e = record { is = rw (ne_eqb n 65535 e); number = refl }

-- ---- goals

pub range_made : (f n : ℕ) → f ≡ 0 → goal_of (Single n) ≡ rules.goal_of f n
unfolding goal_of rules.goal_of
range_made f n e = rw e

pub union_made : (f n : ℕ) → (f ≡ 0 → ⊥) → goal_of (Union n) ≡ rules.goal_of f n
unfolding goal_of rules.goal_of
union_made f n e = rw (ne_eqb f 0 e)

module _ (q : Requirement) (n : ℕ) where
  pub form_range : q ≡ Single n → 0 ≡ form_of (goal_of q)
  unfolding form_of goal_of
  form_range e = rw e

  pub form_union : q ≡ Union n → 1 ≡ form_of (goal_of q)
  unfolding form_of goal_of
  form_union e = rw e

  pub number_range : q ≡ Single n → n ≡ number_of (goal_of q)
  unfolding number_of goal_of
  number_range e = rw e

  pub number_union : q ≡ Union n → n ≡ number_of (goal_of q)
  unfolding number_of goal_of
  number_union e = rw e

-- for callers: a goal's form and number give it back
pub goal_from_parts : (g : Goal) → rules.goal_of (form_of g) (number_of g) ≡ g
unfolding form_of number_of rules.goal_of
goal_from_parts (range r) = refl
goal_from_parts (union u) = refl

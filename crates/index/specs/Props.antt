-- Areas hold a catalogue in one way only.
use Rattle.std.specs.Prelude.{List, [], ◌∷◌, ℕ, ◌<◌, length}
use Rattle.std.specs.Coded.{le_prop, Unit-prop, ×_prop}
use Rattle.std.proofs.Math.Option.{Option, none, some}
use native.Mathlib.Nat.{ℕ_set}
use mathlib.Core.Bool.{Bool-set}
use mathlib.Core.List.{is_set}
use Rattle.rules.specs.Catalogue.{Owner, root, part, Goal, range, union, Condition, leaf, joined, Catalogue}
use Rattle.rules.proofs.ListLaws.{All}
use Rattle.rules.proofs.WellFormed.{OwnerGiven, GoalGiven, ConditionGiven, ConditionFits, WellFormed}
use Rattle.tables.specs.declared.Counts.{Counts}
use Rattle.conditions.specs.Props.{sized_prop}
use Rattle.index.specs.Chains.{Chains, FavouredBounded, NonMatchingNoted}
use Rattle.index.specs.Indexed.{Indexed}

module _ (c : Catalogue) where
  owner_prop : (o : Owner) → IsProp (OwnerGiven c o)
  owner_prop root = Unit-prop
  owner_prop (part p) = le_prop

  goal_prop : (g : Goal) → IsProp (GoalGiven c g)
  goal_prop (range r) = le_prop
  goal_prop (union u) = le_prop

  condition_prop : (k : Option ℕ) → IsProp (ConditionGiven c k)
  condition_prop none = Unit-prop
  condition_prop (some k) = le_prop

  fits_prop : (k : ℕ) (x : Condition) → IsProp (ConditionFits c k x)
  fits_prop k (leaf r) = le_prop
  fits_prop k (joined o left right) = ×_prop le_prop le_prop

  ranges_prop : (rs : List ℕ) → IsProp (All (λ r. r < length c.ranges) rs)
  ranges_prop [] = Unit-prop
  ranges_prop (r ∷ rs) = ×_prop le_prop (ranges_prop rs)

  pub formed_prop : IsProp (WellFormed c)
  formed_prop = Prim.hlevel (le_prop, ℕ_set, Bool-set, owner_prop, goal_prop, condition_prop, fits_prop, ranges_prop)

bounded_prop : (k : Counts) (t : List ℕ) → IsProp (FavouredBounded k t)
bounded_prop k t = Prim.hlevel le_prop

noted_prop : (k : Counts) (m t : List ℕ) → IsProp (NonMatchingNoted k m t)
noted_prop k m t = Prim.hlevel (le_prop, Bool-set)

pub chains_prop : (k : Counts) (m t : List ℕ) → IsProp (Chains k m t)
chains_prop k m t = Prim.hlevel (le_prop, ℕ_set, Bool-set, is_set, bounded_prop, noted_prop)

pub indexed_prop : (k : Counts) (m u t : List ℕ) → IsProp (Indexed k m u t)
indexed_prop k m u t = Prim.hlevel (le_prop, ℕ_set, Bool-set, is_set, sized_prop, chains_prop)

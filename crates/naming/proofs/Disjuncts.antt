-- The ranges of a requirement's disjunct, and the indices of disjuncts, one after another.
use mathlib.Core.Path.{◌≡◌, refl}
use mathlib.Core.Bool.{false}
use mathlib.Core.List.{List, []}
use Prim.Native.Nat.{ℕ, ◌<◌, ◌≤◌}
use lib.ListN.{length, get_or}
use Rattle.rules.specs.Lists.{fold}
use Rattle.rules.specs.Catalogue.{Catalogue, no_requirement}
use Rattle.rules.specs.Conditions.{disjuncts, disjuncts_of, disjunct_at, unconditional}
use Rattle.rules.proofs.Each.{each_at}
use Rattle.requirement.specs.declared.ConditionalRequirement.{ConditionalRequirement}
use Rattle.requirement.specs.Requirements.{requirement_is}
use Rattle.tables.specs.declared.Counts.{Counts}
use Rattle.tables.specs.Tables.{tables}
use Rattle.cache.specs.Areas.{catalogue}
use Rattle.encoder.specs.declared.State.{State}
use Rattle.encoder.specs.Does.{StateDoes}
use Rattle.encoder.proofs.Does.{does_same}
use Rattle.std.specs.Prelude.{Some}
use Rattle.index.specs.Catalogued.{Catalogued}
use Rattle.firing.proofs.Required.{condition_given, its_disjuncts}
use Rattle.firing.proofs.Given.{range_given}
use Rattle.naming.specs.Naming.{name_range, name_disjuncts, GivenIndices}
use Rattle.naming.proofs.Loops.{Passed, pass_end}

-- ---- the ranges of a disjunct

module _ (k : Counts) (m u t : List ℕ) (q i : ℕ) (it : ConditionalRequirement) (e : requirement_is it ≡ get_or (tables k t).requirements q no_requirement)
    (w : Catalogued k m u t) (p : (q < k.requirements) × (unconditional (catalogue k m u t) q ≡ false) × (i < length (disjuncts_of (catalogue k m u t) q)))
    (x : ℕ) (f : it.condition ≡ Some x) where
  disjuncts_are : disjuncts_of (catalogue k m u t) q ≡ disjuncts (tables k t).conditions x
  disjuncts_are = its_disjuncts k m u t q it e w p.0 p.1 x f

  pub its_condition : x < k.conditions
  its_condition = condition_given k m u t q it e w p.0 p.1 x f

  pub index_given : i < length (disjuncts (tables k t).conditions x)
  index_given = rw disjuncts_are at p.2

  module _ {rs : List ℕ} (h : rs ≡ get_or (disjuncts (tables k t).conditions x) i []) where
    pub its_range : (j : ℕ) → j < length rs → get_or rs j 0 < k.ranges
    its_range j b = range_given k m u t x i w its_condition index_given h j b

    pub disjunct_end : {a₀ a : State} {j : ℕ} → Passed (catalogue k m u t) (name_range (catalogue k m u t)) rs a₀ a j → length rs ≤ j
        → StateDoes (catalogue k m u t) (λ v. fold (name_range (catalogue k m u t)) (disjunct_at (catalogue k m u t) q i)) a₀ a
    unfolding disjunct_at
    disjunct_end y b = does_same (pass_end y b) (λ v z. rw (h, disjuncts_are))

-- ---- the indices of disjuncts

pub index_low : {c : Catalogue} {q : ℕ} {is : List ℕ} → GivenIndices c q is → (j : ℕ) → j < length is → get_or is j 0 < length (disjuncts_of c q)
index_low g j h = each_at g.given j 0 h

pub indices_end : {c : Catalogue} (q : ℕ) {is : List ℕ} {a₀ a : State} {j : ℕ} → Passed c (λ i. fold (name_range c) (disjunct_at c q i)) is a₀ a j → length is ≤ j
    → StateDoes c (λ v. name_disjuncts c q is) a₀ a
indices_end q x h = does_same (pass_end x h) (λ v t. unfold name_disjuncts in refl)

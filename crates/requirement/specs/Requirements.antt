-- What the enums and the struct stand for in the definitions.
use Rattle.std.specs.Prelude.{◌≡◌, ℕ}
use Rattle.std.specs.Prelude as code
use Rattle.std.specs.Prelude.{Some, None}
use Rattle.std.proofs.Math.Option.{Option, none, some}
use Rattle.rules.specs.Catalogue as rules
use Rattle.rules.specs.Catalogue.{Goal, range, union, root, part}
use Rattle.rules.specs.Items as stored
use Rattle.requirement.specs.declared.Owner.{Owner}
use Rattle.requirement.specs.declared.Owner.TheVariants.{Root, Part}
use Rattle.requirement.specs.declared.Requirement.{Requirement}
use Rattle.requirement.specs.declared.Requirement.TheVariants.{Single, Union}
use Rattle.requirement.specs.declared.ConditionalRequirement.{ConditionalRequirement}

abbrev pub owner_is : Owner → rules.Owner
owner_is Root = root
owner_is (Part p) = part p

unfoldable pub goal_of : Requirement → Goal
goal_of (Single r) = range r
goal_of (Union u) = union u

abbrev pub condition_is : code.Option ℕ → Option ℕ
condition_is None = none
condition_is (Some c) = some c

unfoldable pub requirement_is : ConditionalRequirement → rules.Requirement
requirement_is q = record { owner = owner_is q.owner; goal = goal_of q.requirement; condition = condition_is q.condition }

-- ---- the numbers of a record

-- an owner's number: the root has the last one
abbrev pub owner_number : Owner → ℕ
owner_number Root = 65535
owner_number (Part p) = p

-- and a condition's, if there is one
abbrev pub condition_number : code.Option ℕ → ℕ
condition_number None = 65535
condition_number (Some c) = c

-- a goal's form and number
unfoldable pub form_of : Goal → ℕ
form_of (range r) = 0
form_of (union u) = 1

unfoldable pub number_of : Goal → ℕ
number_of (range r) = r
number_of (union u) = u

-- the owner of this number, and the number of this owner
pub record OwnerOf (n : ℕ) (o : Owner) : Type 0 where
  pub is : owner_is o ≡ stored.owner_of n
  pub number : owner_number o ≡ n

-- the condition of this number, and its number
pub record ConditionOf (n : ℕ) (c : code.Option ℕ) : Type 0 where
  pub is : condition_is c ≡ stored.condition_of n
  pub number : condition_number c ≡ n

-- The tables of the catalogue's area as the things they stand for. A row is some two-byte numbers; docs/LIMITS.md, "Work areas", has their order.
use Rattle.std.specs.Prelude.{◌≡◌, Bool, true, false, List, map, ℕ, suc, ◌+◌, ◌*◌, ◌≤◌, eqb, length, get_or}
use Rattle.rules.specs.Lists.{snoc, up_to}
use Rattle.rules.specs.AtMostOne.{bit}
use Rattle.rules.specs.Catalogue.{Part, and, or, Condition, leaf, joined, Requirement, Constraint}
use Rattle.rules.specs.Items.{owner_of, condition_of, goal_of, operator_of, part_of}
use Rattle.words.specs.Words.{words}
use Rattle.requirement.specs.declared.ConditionalRequirement.{ConditionalRequirement}
use Rattle.requirement.specs.Requirements.{owner_is, owner_number, condition_number, form_of, number_of}
use Rattle.requirement.specs.Requirements as goals
use Rattle.tables.specs.declared.Counts.{Counts}
use Rattle.tables.specs.declared.Condition as C
use Rattle.tables.specs.declared.Condition.TheVariants.{Range, And, Or}
use Rattle.tables.specs.declared.Constraint as K
use Rattle.tables.specs.declared.Flag.{Flag}
use Rattle.tables.specs.declared.Flag.TheVariants.{Ready, Unknown, Locked, Favoured, Excluded}
use Rattle.tables.specs.declared.Reason.{Reason}
use Rattle.tables.specs.declared.Reason.TheVariants as why
use Rattle.tables.specs.declared.Size as S

-- how many disjuncts a condition has, and how many ranges the longest of them
pub record Size : Type 0 where
  pub count : ℕ
  pub longest : ℕ

abbrev pub no_size : Size
no_size = record { count = 0; longest = 0 }

-- all but members of ranges and of unions
pub record Tables : Type 0 where
  pub names : List Bool
  pub parts : List Part
  pub ranges : List ℕ  -- their names
  pub unions : ℕ  -- how many
  pub conditions : List Condition
  pub sizes : List Size  -- of the conditions
  pub requirements : List Requirement
  pub constraints : List Constraint

-- n things, the i-th being f i
unfoldable pub listed : {A : Type 0} → ℕ → (ℕ → A) → List A
listed n f = map f (up_to 0 n)

-- ---- rows: where a table starts, and how wide its rows are

unfoldable pub field : List ℕ → (start width row place : ℕ) → ℕ
field w start width row place = get_or w (start + width * row + place) 0

unfoldable pub name_row : List ℕ → ℕ → Bool
name_row w i = bit 0 (field w 0 6 i 0)

unfoldable pub part_row : List ℕ → ℕ → Part
part_row w i = part_of (field w 384 5 i 0) (field w 384 5 i 1) (field w 384 5 i 2) (field w 384 5 i 3)

unfoldable pub range_row : List ℕ → ℕ → ℕ
range_row w i = field w 9604 4 i 0

-- the operator, or 2 for a leaf
unfoldable pub condition_by : Bool → (operator left right : ℕ) → Condition
condition_by true o l r = leaf l
condition_by false o l r = joined (operator_of o) l r

unfoldable pub condition_from : (operator left right : ℕ) → Condition
condition_from o l r = condition_by (eqb o 2) o l r

unfoldable pub condition_row : List ℕ → ℕ → Condition
condition_row w i = condition_from (field w 12036 6 i 0) (field w 12036 6 i 1) (field w 12036 6 i 2)

unfoldable pub size_from : (count longest : ℕ) → Size
size_from n l = record { count = n; longest = l }

unfoldable pub size_row : List ℕ → ℕ → Size
size_row w i = size_from (field w 12036 6 i 3) (field w 12036 6 i 4)

unfoldable pub requirement_from : (owner form number condition : ℕ) → Requirement
requirement_from o f n c = record { owner = owner_of o; goal = goal_of f n; condition = condition_of c }

unfoldable pub requirement_row : List ℕ → ℕ → Requirement
requirement_row w i = requirement_from (field w 13572 6 i 0) (field w 13572 6 i 1) (field w 13572 6 i 2) (field w 13572 6 i 3)

unfoldable pub constraint_from : (owner range : ℕ) → Constraint
constraint_from o r = record { owner = owner_of o; range = r }

unfoldable pub constraint_row : List ℕ → ℕ → Constraint
constraint_row w i = constraint_from (field w 19716 3 i 0) (field w 19716 3 i 1)

unfoldable pub tables_in : Counts → List ℕ → Tables
tables_in k w =
    record {
      names = listed k.names (name_row w);
      parts = listed k.parts (part_row w);
      ranges = listed k.ranges (range_row w);
      unions = k.unions;
      conditions = listed k.conditions (condition_row w);
      sizes = listed k.conditions (size_row w);
      requirements = listed k.requirements (requirement_row w);
      constraints = listed k.constraints (constraint_row w);
    }

unfoldable pub tables : Counts → List ℕ → Tables
tables k bytes = tables_in k (words bytes)

-- the ceilings, and an area of this many bytes holds the tables
pub record Laid (k : Counts) (bytes : ℕ) : Type 0 where
  pub names : k.names ≤ 64
  pub parts : k.parts ≤ 1024
  pub ranges : k.ranges ≤ 512
  pub unions : k.unions ≤ 128
  pub members : k.members ≤ 13107
  pub conditions : k.conditions ≤ 256
  pub requirements : k.requirements ≤ 1024
  pub constraints : k.constraints ≤ 512
  pub fits : 50696 ≤ bytes

-- ---- what the structs stand for

abbrev pub condition_is : C.Condition → Condition
condition_is (Range r) = leaf r
condition_is (And l r) = joined and l r
condition_is (Or l r) = joined or l r

unfoldable pub size_is : S.Size → Size
size_is z = size_from z.count z.longest

unfoldable pub constraint_is : K.Constraint → Constraint
constraint_is c = record { owner = owner_is c.owner; range = c.range }

-- a requirement and a constraint as they are stored: by numbers, of which the last is the root's, and no condition's
unfoldable pub stored_requirement : ConditionalRequirement → Requirement
stored_requirement q = requirement_from (owner_number q.owner) (form_of (goals.goal_of q.requirement)) (number_of (goals.goal_of q.requirement)) (condition_number q.condition)

unfoldable pub stored_constraint : K.Constraint → Constraint
stored_constraint c = constraint_from (owner_number c.owner) c.range

-- a part's flag, and why it is unknown or excluded
abbrev pub flag_of : Flag → Part → Bool
flag_of Ready p = p.ready
flag_of Unknown p = p.unknown
flag_of Locked p = p.locked
flag_of Favoured p = p.favoured
flag_of Excluded p = p.excluded

abbrev pub reason_of : Reason → Part → ℕ
reason_of why.Unknown p = p.unknown_reason
reason_of why.Exclusion p = p.exclusion_reason

-- the bit of a flag in the number that holds them, by its power
abbrev pub power_of : Flag → ℕ
power_of Ready = 1
power_of Unknown = 2
power_of Locked = 4
power_of Favoured = 8
power_of Excluded = 16

-- ---- one thing more

unfoldable pub with_name : Tables → Bool → Tables
with_name t x = record { names = snoc t.names x; parts = t.parts; ranges = t.ranges; unions = t.unions; conditions = t.conditions; sizes = t.sizes; requirements = t.requirements; constraints = t.constraints }

unfoldable pub with_part : Tables → Part → Tables
with_part t x = record { names = t.names; parts = snoc t.parts x; ranges = t.ranges; unions = t.unions; conditions = t.conditions; sizes = t.sizes; requirements = t.requirements; constraints = t.constraints }

unfoldable pub with_range : Tables → ℕ → Tables
with_range t x = record { names = t.names; parts = t.parts; ranges = snoc t.ranges x; unions = t.unions; conditions = t.conditions; sizes = t.sizes; requirements = t.requirements; constraints = t.constraints }

unfoldable pub with_condition : Tables → Condition → Size → Tables
with_condition t x z = record { names = t.names; parts = t.parts; ranges = t.ranges; unions = t.unions; conditions = snoc t.conditions x; sizes = snoc t.sizes z; requirements = t.requirements; constraints = t.constraints }

unfoldable pub with_requirement : Tables → Requirement → Tables
with_requirement t x = record { names = t.names; parts = t.parts; ranges = t.ranges; unions = t.unions; conditions = t.conditions; sizes = t.sizes; requirements = snoc t.requirements x; constraints = t.constraints }

unfoldable pub with_constraint : Tables → Constraint → Tables
with_constraint t x = record { names = t.names; parts = t.parts; ranges = t.ranges; unions = t.unions; conditions = t.conditions; sizes = t.sizes; requirements = t.requirements; constraints = snoc t.constraints x }

unfoldable pub with_union : Tables → Tables
with_union t = record { names = t.names; parts = t.parts; ranges = t.ranges; unions = suc t.unions; conditions = t.conditions; sizes = t.sizes; requirements = t.requirements; constraints = t.constraints }

-- what is left when one thing more was put: r counts it, the bytes hold the tables t, and the union members are as many as before
pub record Added (k r : Counts) (bytes : List ℕ) (t : Tables) : Type 0 where
  pub laid : Laid r (length bytes)
  pub members : r.members ≡ k.members
  pub is : tables r bytes ≡ t

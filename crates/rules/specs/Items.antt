-- 01, the record table: what each catalogue record adds, and its refusals in the order 3, 4, 5, 6.
use Rattle.std.specs.Prelude.{Bool, false, not, ◌&&◌, ◌||◌, cond, List, [], ◌∷◌, ℕ, eqb, ltb, leb, length, get_or, set}
use Rattle.std.proofs.Math.Option.{Option, none, some}
use Rattle.rules.specs.Lists.{any, snoc}
use Rattle.rules.specs.AtMostOne.{bit}
use Rattle.rules.specs.Catalogue.{Owner, root, part, Goal, range, union, Part, Range, Operator, and, or, Condition, leaf, joined, Requirement, Constraint, Catalogue, part_at, range_at, unknown_owner}
use Rattle.rules.specs.Conditions.{disjuncts, too_wide, too_many_disjuncts}
use Rattle.rules.specs.Refusals.{Thing, other_bits, second_locked, second_favoured, part_of_another_name, member_twice, other_operator, other_form, owner_unknown, Refusal, too_many, missing, contradicts, disjuncts_over, ranges_over, ◌if◌, Result, unless_any}
use Rattle.rules.specs.Records.{Item}

-- "Owner 65,535 is the root; condition 65,535 is none"
unfoldable pub owner_of : ℕ → Owner
owner_of n = cond (eqb n 65535) root (part n)

unfoldable pub condition_of : ℕ → Option ℕ
condition_of k = cond (eqb k 65535) none (some k)

-- forms: 0 range, 1 union
unfoldable pub goal_of : ℕ → ℕ → Goal
goal_of form n = cond (eqb form 0) (range n) (union n)

-- operators: 0 and, 1 or
unfoldable pub operator_of : ℕ → Operator
operator_of o = cond (eqb o 0) and or

-- flags, bits 0 to 4: ready, unknown, locked, favoured, excluded
unfoldable pub part_of : ℕ → ℕ → ℕ → ℕ → Part
part_of n flags u e =
    record { name = n; ready = bit 0 flags; unknown = bit 1 flags; locked = bit 2 flags; favoured = bit 3 flags; excluded = bit 4 flags; unknown_reason = u; exclusion_reason = e }

unfoldable pub with_member : ℕ → Range → Range
with_member p r = record { name = r.name; members = λ q. eqb q p || r.members q }

-- ---- "Catalogue ceilings"

unfoldable pub ceiling : Thing → ℕ
ceiling Thing.name = 64
ceiling Thing.part = 1024
ceiling Thing.range = 512
ceiling Thing.union = 128
ceiling Thing.condition = 256
ceiling Thing.requirement = 1024
ceiling Thing.constraint = 512

module _ (c : Catalogue) where
  unfoldable pub given : Thing → ℕ
  given Thing.name = length c.names
  given Thing.part = length c.parts
  given Thing.range = length c.ranges
  given Thing.union = length c.unions
  given Thing.condition = length c.conditions
  given Thing.requirement = length c.requirements
  given Thing.constraint = length c.constraints

  unfoldable pub at_ceiling : Thing → Bool
  at_ceiling t = leb (ceiling t) (given t)

  -- "a number names nothing given earlier"
  unfoldable pub absent : Thing → ℕ → Bool
  absent t n = leb (given t) n

  unfoldable pub owner_absent : ℕ → Bool
  owner_absent n = not (eqb n 65535) && absent Thing.part n

  unfoldable pub condition_absent : ℕ → Bool
  condition_absent k = not (eqb k 65535) && absent Thing.condition k

  unfoldable pub of_same_name : (Part → Bool) → ℕ → Bool
  of_same_name is n = any (λ (q : Part). eqb q.name n && is q) c.parts

  -- a record's refusals; `missing` has the byte of the number, the kind's being 0
  unfoldable pub item_refusals : Item → List (Refusal × Bool)
  item_refusals (Item.name flags) =
      (too_many Thing.name if at_ceiling Thing.name)
      ∷ (contradicts other_bits if ltb 1 flags) ∷ []
  item_refusals (Item.part n flags u e) =
      (too_many Thing.part if at_ceiling Thing.part)
      ∷ (missing Thing.name 1 if absent Thing.name n)
      ∷ (contradicts other_bits if ltb 31 flags)
      ∷ (contradicts second_locked if bit 2 flags && of_same_name (λ (q : Part). q.locked) n)
      ∷ (contradicts second_favoured if bit 3 flags && of_same_name (λ (q : Part). q.favoured) n) ∷ []
  item_refusals (Item.range n) =
      (too_many Thing.range if at_ceiling Thing.range)
      ∷ (missing Thing.name 1 if absent Thing.name n) ∷ []
  item_refusals (Item.member r p) =
      (missing Thing.range 1 if absent Thing.range r)
      ∷ (missing Thing.part 3 if absent Thing.part p)
      ∷ (contradicts part_of_another_name if not (eqb (part_at c p).name (range_at c r).name))
      ∷ (contradicts member_twice if (range_at c r).members p) ∷ []
  item_refusals Item.union = (too_many Thing.union if at_ceiling Thing.union) ∷ []
  item_refusals (Item.union_member u r) =
      (missing Thing.union 1 if absent Thing.union u)
      ∷ (missing Thing.range 3 if absent Thing.range r) ∷ []
  item_refusals (Item.leaf r) =
      (too_many Thing.condition if at_ceiling Thing.condition)
      ∷ (missing Thing.range 1 if absent Thing.range r) ∷ []
  item_refusals (Item.joined o l r) =
      let ds = disjuncts (snoc c.conditions (joined (operator_of o) l r)) (length c.conditions) in
      (too_many Thing.condition if at_ceiling Thing.condition)
      ∷ (missing Thing.condition 2 if absent Thing.condition l)
      ∷ (missing Thing.condition 4 if absent Thing.condition r)
      ∷ (contradicts other_operator if ltb 1 o)
      ∷ (disjuncts_over if too_many_disjuncts ds)
      ∷ (ranges_over if too_wide ds) ∷ []
  item_refusals (Item.requirement o form n k) =
      (too_many Thing.requirement if at_ceiling Thing.requirement)
      ∷ (missing Thing.part 1 if owner_absent o)
      ∷ (missing Thing.range 4 if eqb form 0 && absent Thing.range n)
      ∷ (missing Thing.union 4 if eqb form 1 && absent Thing.union n)
      ∷ (missing Thing.condition 6 if condition_absent k)
      ∷ (contradicts other_form if ltb 1 form)
      ∷ (contradicts owner_unknown if unknown_owner c (owner_of o)) ∷ []
  item_refusals (Item.constraint o r) =
      (too_many Thing.constraint if at_ceiling Thing.constraint)
      ∷ (missing Thing.part 1 if owner_absent o)
      ∷ (missing Thing.range 3 if absent Thing.range r)
      ∷ (contradicts owner_unknown if unknown_owner c (owner_of o)) ∷ []

  -- ---- the catalogue with one record more

  abbrev with_names : List Bool → Catalogue
  with_names x = record { names = x; parts = c.parts; ranges = c.ranges; unions = c.unions; conditions = c.conditions; requirements = c.requirements; constraints = c.constraints }

  abbrev with_parts : List Part → Catalogue
  with_parts x = record { names = c.names; parts = x; ranges = c.ranges; unions = c.unions; conditions = c.conditions; requirements = c.requirements; constraints = c.constraints }

  abbrev with_ranges : List Range → Catalogue
  with_ranges x = record { names = c.names; parts = c.parts; ranges = x; unions = c.unions; conditions = c.conditions; requirements = c.requirements; constraints = c.constraints }

  abbrev with_unions : List (List ℕ) → Catalogue
  with_unions x = record { names = c.names; parts = c.parts; ranges = c.ranges; unions = x; conditions = c.conditions; requirements = c.requirements; constraints = c.constraints }

  abbrev with_conditions : List Condition → Catalogue
  with_conditions x = record { names = c.names; parts = c.parts; ranges = c.ranges; unions = c.unions; conditions = x; requirements = c.requirements; constraints = c.constraints }

  abbrev with_requirements : List Requirement → Catalogue
  with_requirements x = record { names = c.names; parts = c.parts; ranges = c.ranges; unions = c.unions; conditions = c.conditions; requirements = x; constraints = c.constraints }

  abbrev with_constraints : List Constraint → Catalogue
  with_constraints x = record { names = c.names; parts = c.parts; ranges = c.ranges; unions = c.unions; conditions = c.conditions; requirements = c.requirements; constraints = x }

  unfoldable pub with_item : Item → Catalogue
  with_item (Item.name flags) = with_names (snoc c.names (bit 0 flags))
  with_item (Item.part n flags u e) = with_parts (snoc c.parts (part_of n flags u e))
  with_item (Item.range n) = with_ranges (snoc c.ranges (record { name = n; members = λ _. false }))
  with_item (Item.member r p) = with_ranges (set c.ranges r (with_member p (range_at c r)))
  with_item Item.union = with_unions (snoc c.unions [])
  with_item (Item.union_member u r) = with_unions (set c.unions u (snoc (get_or c.unions u []) r))
  with_item (Item.leaf r) = with_conditions (snoc c.conditions (leaf r))
  with_item (Item.joined o l r) = with_conditions (snoc c.conditions (joined (operator_of o) l r))
  with_item (Item.requirement o form n k) = with_requirements (snoc c.requirements (record { owner = owner_of o; goal = goal_of form n; condition = condition_of k }))
  with_item (Item.constraint o r) = with_constraints (snoc c.constraints (record { owner = owner_of o; range = r }))

  unfoldable pub add_item : Item → Result Catalogue
  add_item e = unless_any (item_refusals e) (with_item e)

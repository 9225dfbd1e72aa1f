-- A catalogue that items have given is well formed: every number in it names something given, and its counts keep their ceilings.
use mathlib.Core.Path.{◌≡◌, refl, ◌∙◌, ap}
use mathlib.Core.Bool.{Bool, true, false, not, ◌&&◌, ◌||◌, cond, false≢true}
use mathlib.Core.List.{[], ◌∷◌}
use mathlib.Core.Option.{Option, none, some}
use Prim.Native.Nat.{ℕ, ◌<◌, ◌≤◌}
use native.Mathlib.Nat.{not-suc-le-zero}
use native.Mathlib.Omega.{arith}
use lib.Dec.{eqb, ltb}
use lib.ListN.{length, get_or, length-set, get_or-append}
use borrow.Author.Tests.{eqb-true, eqb-false, eq-eqb, ltb-false, leb-false, not-false}
use Rattle.rules.specs.Lists.{snoc}
use Rattle.rules.specs.AtMostOne.{bit}
use Rattle.rules.specs.Catalogue.{Owner, root, part, Goal, range, union, Part, Range, Condition, leaf, joined, Requirement, Constraint, Catalogue, empty_catalogue, part_at, range_at, requirement_at, constraint_at, name_of, unknown_owner}
use Rattle.rules.specs.Refusals.{Thing}
use Rattle.rules.specs.Records.{Item}
use Rattle.rules.specs.Items.{owner_of, condition_of, goal_of, operator_of, part_of, with_member, ceiling, given, at_ceiling, absent, owner_absent, condition_absent, item_refusals, with_item}
use Rattle.rules.proofs.ListLaws.{All, all_snoc, all_weaken, length_snoc, each_snoc, each_set}
use Rattle.rules.proofs.Reached.{Passed, tested, passes, Given, nothing, item}

-- ---- what each thing of a catalogue has to name

module _ (c : Catalogue) where
  abbrev pub OwnerGiven : Owner → Type 0
  OwnerGiven root = Unit {0}
  OwnerGiven (part p) = p < length c.parts

  abbrev pub GoalGiven : Goal → Type 0
  GoalGiven (range r) = r < length c.ranges
  GoalGiven (union u) = u < length c.unions

  abbrev pub ConditionGiven : Option ℕ → Type 0
  ConditionGiven none = Unit {0}
  ConditionGiven (some k) = k < length c.conditions

  -- a given part of the name n
  pub record MemberOf (n p : ℕ) : Type 0 where
    pub given : p < length c.parts
    pub name : name_of c p ≡ n

  pub record RangeFits (x : Range) : Type 0 where
    pub name : x.name < length c.names
    pub members : (p : ℕ) → x.members p ≡ true → MemberOf x.name p

  -- condition k: its range is given, or its halves have smaller numbers
  abbrev pub ConditionFits : ℕ → Condition → Type 0
  ConditionFits k (leaf r) = r < length c.ranges
  ConditionFits k (joined o left right) = (left < k) × (right < k)

  pub record RequirementFits (x : Requirement) : Type 0 where
    pub owner : OwnerGiven x.owner
    pub known : unknown_owner c x.owner ≡ false
    pub goal : GoalGiven x.goal
    pub condition : ConditionGiven x.condition

  pub record ConstraintFits (x : Constraint) : Type 0 where
    pub owner : OwnerGiven x.owner
    pub known : unknown_owner c x.owner ≡ false
    pub range : x.range < length c.ranges

-- 01, "Catalogue ceilings"
pub record Ceilings (c : Catalogue) : Type 0 where
  pub names : length c.names ≤ ceiling Thing.name
  pub parts : length c.parts ≤ ceiling Thing.part
  pub ranges : length c.ranges ≤ ceiling Thing.range
  pub unions : length c.unions ≤ ceiling Thing.union
  pub conditions : length c.conditions ≤ ceiling Thing.condition
  pub requirements : length c.requirements ≤ ceiling Thing.requirement
  pub constraints : length c.constraints ≤ ceiling Thing.constraint

-- by number, as the definitions look things up
pub record WellFormed (c : Catalogue) : Type 0 where
  pub parts : (p : ℕ) → p < length c.parts → name_of c p < length c.names
  pub ranges : (r : ℕ) → r < length c.ranges → RangeFits c (range_at c r)
  pub unions : (u : ℕ) → u < length c.unions → All (λ r. r < length c.ranges) (get_or c.unions u [])
  pub conditions : (k : ℕ) → k < length c.conditions → ConditionFits c k (get_or c.conditions k (leaf 0))
  pub requirements : (q : ℕ) → q < length c.requirements → RequirementFits c (requirement_at c q)
  pub constraints : (k : ℕ) → k < length c.constraints → ConstraintFits c (constraint_at c k)
  pub ceilings : Ceilings c

-- ---- what was given stays given

record Grown (c c' : Catalogue) : Type 0 where
  names : length c.names ≤ length c'.names
  parts : length c.parts ≤ length c'.parts
  ranges : length c.ranges ≤ length c'.ranges
  unions : length c.unions ≤ length c'.unions
  conditions : length c.conditions ≤ length c'.conditions

grown : (c : Catalogue) (i : Item) → Grown c (with_item c i)
unfolding with_item
grown c (Item.name flags) = omega (arith, length_snoc c.names (bit 0 flags))
grown c (Item.part n flags u e) = omega (arith, length_snoc c.parts (part_of n flags u e))
grown c (Item.range n) = omega (arith, length_snoc c.ranges (record { name = n; members = λ _. false }))
grown c (Item.member r p) = omega (arith, length-set c.ranges r (with_member p (range_at c r)))
grown c Item.union = omega (arith, length_snoc c.unions [])
grown c (Item.union_member u r) = omega (arith, length-set c.unions u (snoc (get_or c.unions u []) r))
grown c (Item.leaf r) = omega (arith, length_snoc c.conditions (leaf r))
grown c (Item.joined o l r) = omega (arith, length_snoc c.conditions (joined (operator_of o) l r))
grown c (Item.requirement o form n k) = omega arith
grown c (Item.constraint o r) = omega arith

same_part : (c : Catalogue) (i : Item) (p : ℕ) → p < length c.parts → part_at (with_item c i) p ≡ part_at c p
unfolding with_item part_at snoc
same_part c (Item.name flags) p h = refl
same_part c (Item.part n flags u e) p h = get_or-append c.parts (part_of n flags u e ∷ []) _ p h
same_part c (Item.range n) p h = refl
same_part c (Item.member r q) p h = refl
same_part c Item.union p h = refl
same_part c (Item.union_member u r) p h = refl
same_part c (Item.leaf r) p h = refl
same_part c (Item.joined o l r) p h = refl
same_part c (Item.requirement o form n k) p h = refl
same_part c (Item.constraint o r) p h = refl

module _ (c : Catalogue) (i : Item) where
  abbrev after : Catalogue
  after = with_item c i

  owner_stays : (o : Owner) → OwnerGiven c o → OwnerGiven after o
  owner_stays root h = tt
  owner_stays (part p) h = omega (arith, grown c i)

  known_stays : (o : Owner) → OwnerGiven c o → unknown_owner c o ≡ false → unknown_owner after o ≡ false
  unfolding unknown_owner
  known_stays root h e = refl
  known_stays (part p) h e = ap (λ (x : Part). x.unknown) (same_part c i p h) ∙ e

  goal_stays : (g : Goal) → GoalGiven c g → GoalGiven after g
  goal_stays (range r) h = omega (arith, grown c i)
  goal_stays (union u) h = omega (arith, grown c i)

  condition_stays : (k : Option ℕ) → ConditionGiven c k → ConditionGiven after k
  condition_stays none h = tt
  condition_stays (some k) h = omega (arith, grown c i)

  member_stays : {n p : ℕ} → MemberOf c n p → MemberOf after n p
  member_stays {n} {p} m = record { given = omega (arith, grown c i); name = ap (λ (x : Part). x.name) (same_part c i p m.given) ∙ m.name }

  range_stays : {x : Range} → RangeFits c x → RangeFits after x
  range_stays {x} f = record { name = omega (arith, grown c i); members = λ p e. member_stays (f.members p e) }

  fits_stays : (k : ℕ) (x : Condition) → ConditionFits c k x → ConditionFits after k x
  fits_stays k (leaf r) h = omega (arith, grown c i)
  fits_stays k (joined o left right) h = h

  requirement_stays : {x : Requirement} → RequirementFits c x → RequirementFits after x
  requirement_stays {x} f = record {
    owner = owner_stays x.owner f.owner;
    known = known_stays x.owner f.owner f.known;
    goal = goal_stays x.goal f.goal;
    condition = condition_stays x.condition f.condition;
  }

  constraint_stays : {x : Constraint} → ConstraintFits c x → ConstraintFits after x
  constraint_stays {x} f = record {
    owner = owner_stays x.owner f.owner;
    known = known_stays x.owner f.owner f.known;
    range = omega (arith, grown c i);
  }

-- ---- what a record's tests have shown

module _ (c : Catalogue) where
  present : (t : Thing) (n : ℕ) → absent c t n ≡ false → n < given c t
  unfolding absent
  present t n e = leb-false (given c t) n e

  below_ceiling : (t : Thing) → at_ceiling c t ≡ false → given c t < ceiling t
  unfolding at_ceiling
  below_ceiling t e = leb-false (ceiling t) (given c t) e

  pub owner_present : (n : ℕ) → owner_absent c n ≡ false → OwnerGiven c (owner_of n)
  unfolding owner_absent owner_of given
  owner_present n e = go (eqb n 65535) e
    where
      go : (b : Bool) → (not b && absent c Thing.part n) ≡ false → OwnerGiven c (cond b root (part n))
      go true e = tt
      go false e = present Thing.part n e

  condition_present : (k : ℕ) → condition_absent c k ≡ false → ConditionGiven c (condition_of k)
  unfolding condition_absent condition_of given
  condition_present k e = go (eqb k 65535) e
    where
      go : (b : Bool) → (not b && absent c Thing.condition k) ≡ false → ConditionGiven c (cond b none (some k))
      go true e = tt
      go false e = present Thing.condition k e

  goal_present : (form n : ℕ) → (eqb form 0 && absent c Thing.range n) ≡ false → (eqb form 1 && absent c Thing.union n) ≡ false → ltb 1 form ≡ false
      → GoalGiven c (goal_of form n)
  unfolding goal_of given
  goal_present form n a b l = go (eqb form 0) refl a
    where
      go : (z : Bool) → eqb form 0 ≡ z → (z && absent c Thing.range n) ≡ false → GoalGiven c (cond z (range n) (union n))
      go true e a = present Thing.range n a
      go false e a =
          let one : form ≡ 1 = omega (arith, eqb-false form 0 e, ltb-false 1 form l) in
          present Thing.union n (rw (eq-eqb form 1 one) at b)

-- ---- each item keeps a catalogue well formed

-- the new member, or one of the old
member_or : (c : Catalogue) (i : Item) (b : Bool) {n : ℕ} {was : Bool} (x q : ℕ) → eqb x q ≡ b → MemberOf c n q → (was ≡ true → MemberOf (with_item c i) n x)
    → (b || was) ≡ true → MemberOf (with_item c i) n x
member_or c i true x q e new old h = rw (eqb-true x q e) (member_stays c i new)
member_or c i false x q e new old h = old h

ceilings_kept : (c : Catalogue) (i : Item) → Passed (item_refusals c i) → Ceilings c → Ceilings (with_item c i)
unfolding item_refusals tested with_item given
ceilings_kept c (Item.name flags) p h = omega (arith, below_ceiling c Thing.name (passes p 0), length_snoc c.names (bit 0 flags))
ceilings_kept c (Item.part n flags u e) p h = omega (arith, below_ceiling c Thing.part (passes p 0), length_snoc c.parts (part_of n flags u e))
ceilings_kept c (Item.range n) p h = omega (arith, below_ceiling c Thing.range (passes p 0), length_snoc c.ranges (record { name = n; members = λ _. false }))
ceilings_kept c (Item.member r q) p h = omega (arith, length-set c.ranges r (with_member q (range_at c r)))
ceilings_kept c Item.union p h = omega (arith, below_ceiling c Thing.union (passes p 0), length_snoc c.unions [])
ceilings_kept c (Item.union_member u r) p h = omega (arith, length-set c.unions u (snoc (get_or c.unions u []) r))
ceilings_kept c (Item.leaf r) p h = omega (arith, below_ceiling c Thing.condition (passes p 0), length_snoc c.conditions (leaf r))
ceilings_kept c (Item.joined o l r) p h = omega (arith, below_ceiling c Thing.condition (passes p 0), length_snoc c.conditions (joined (operator_of o) l r))
ceilings_kept c (Item.requirement o form n k) p h =
    let x : Requirement = record { owner = owner_of o; goal = goal_of form n; condition = condition_of k } in
    omega (arith, below_ceiling c Thing.requirement (passes p 0), length_snoc c.requirements x)
ceilings_kept c (Item.constraint o r) p h =
    let x : Constraint = record { owner = owner_of o; range = r } in
    omega (arith, below_ceiling c Thing.constraint (passes p 0), length_snoc c.constraints x)

-- the things of c, where c' is what is given
record Carried (c c' : Catalogue) : Type 0 where
  parts : (p : ℕ) → p < length c.parts → name_of c p < length c'.names
  ranges : (r : ℕ) → r < length c.ranges → RangeFits c' (range_at c r)
  unions : (u : ℕ) → u < length c.unions → All (λ r. r < length c'.ranges) (get_or c.unions u [])
  conditions : (k : ℕ) → k < length c.conditions → ConditionFits c' k (get_or c.conditions k (leaf 0))
  requirements : (q : ℕ) → q < length c.requirements → RequirementFits c' (requirement_at c q)
  constraints : (k : ℕ) → k < length c.constraints → ConstraintFits c' (constraint_at c k)

carried : (c : Catalogue) (i : Item) → WellFormed c → Carried c (with_item c i)
carried c i w = record {
  parts = λ p h. omega (arith, grown c i, w.parts p h);
  ranges = λ r h. range_stays c i (w.ranges r h);
  unions = λ u h. all_weaken _ _ (λ r l. omega (arith, grown c i)) (get_or c.unions u []) (w.unions u h);
  conditions = λ k h. fits_stays c i k (get_or c.conditions k (leaf 0)) (w.conditions k h);
  requirements = λ q h. requirement_stays c i (w.requirements q h);
  constraints = λ k h. constraint_stays c i (w.constraints k h);
}

-- the list that an item changes, and the others as they were
kept : (c : Catalogue) (i : Item) → Passed (item_refusals c i) → Carried c (with_item c i) → Ceilings (with_item c i) → WellFormed (with_item c i)
unfolding item_refusals tested with_item given part_at range_at requirement_at constraint_at part_of with_member
kept c (Item.name flags) p v m =
    record { parts = v.parts; ranges = v.ranges; unions = v.unions; conditions = v.conditions; requirements = v.requirements; constraints = v.constraints; ceilings = m }
kept c (Item.part n flags u e) p v m =
    let x = each_snoc (λ _ (q : Part). q.name < length c.names) _ c.parts (part_of n flags u e) v.parts (present c Thing.name n (passes p 1)) in
    record { parts = x; ranges = v.ranges; unions = v.unions; conditions = v.conditions; requirements = v.requirements; constraints = v.constraints; ceilings = m }
kept c (Item.range n) p v m =
    let i = Item.range n in
    let x = each_snoc (λ _. RangeFits (with_item c i)) _ c.ranges _ v.ranges (record { name = present c Thing.name n (passes p 1); members = λ q e. absurd (false≢true e) }) in
    record { parts = v.parts; ranges = x; unions = v.unions; conditions = v.conditions; requirements = v.requirements; constraints = v.constraints; ceilings = m }
kept c (Item.member r q) p v m =
    let old = v.ranges r (present c Thing.range r (passes p 0)) in
    let new : MemberOf c (range_at c r).name q = record { given = present c Thing.part q (passes p 1); name = eqb-true _ _ (not-false _ (passes p 2)) } in
    let i = Item.member r q in
    let ms : (x : ℕ) → (eqb x q || (range_at c r).members x) ≡ true → MemberOf (with_item c i) (range_at c r).name x = λ x. member_or c i (eqb x q) x q refl new (old.members x) in
    let x = each_set (λ _. RangeFits (with_item c i)) _ c.ranges r _ v.ranges (record { name = old.name; members = ms }) in
    record { parts = v.parts; ranges = x; unions = v.unions; conditions = v.conditions; requirements = v.requirements; constraints = v.constraints; ceilings = m }
kept c Item.union p v m =
    let x = each_snoc (λ _. All (λ r. r < length c.ranges)) _ c.unions [] v.unions tt in
    record { parts = v.parts; ranges = v.ranges; unions = x; conditions = v.conditions; requirements = v.requirements; constraints = v.constraints; ceilings = m }
kept c (Item.union_member u r) p v m =
    let old = v.unions u (present c Thing.union u (passes p 0)) in
    let new = all_snoc (λ n. n < length c.ranges) (get_or c.unions u []) r old (present c Thing.range r (passes p 1)) in
    let x = each_set (λ _. All (λ n. n < length c.ranges)) _ c.unions u _ v.unions new in
    record { parts = v.parts; ranges = v.ranges; unions = x; conditions = v.conditions; requirements = v.requirements; constraints = v.constraints; ceilings = m }
kept c (Item.leaf r) p v m =
    let x = each_snoc (ConditionFits c) _ c.conditions (leaf r) v.conditions (present c Thing.range r (passes p 1)) in
    record { parts = v.parts; ranges = v.ranges; unions = v.unions; conditions = x; requirements = v.requirements; constraints = v.constraints; ceilings = m }
kept c (Item.joined o l r) p v m =
    let k = length c.conditions in
    let halves : (l < k) × (r < k) = (present c Thing.condition l (passes p 1), present c Thing.condition r (passes p 2)) in
    let x = each_snoc (ConditionFits c) _ c.conditions (joined (operator_of o) l r) v.conditions halves in
    record { parts = v.parts; ranges = v.ranges; unions = v.unions; conditions = x; requirements = v.requirements; constraints = v.constraints; ceilings = m }
kept c (Item.requirement o form n k) p v m =
    let i = Item.requirement o form n k in
    let new : RequirementFits c (record { owner = owner_of o; goal = goal_of form n; condition = condition_of k }) = record {
      owner = owner_present c o (passes p 1);
      known = passes p 6;
      goal = goal_present c form n (passes p 2) (passes p 3) (passes p 5);
      condition = condition_present c k (passes p 4);
    } in
    let x = each_snoc (λ _. RequirementFits (with_item c i)) _ c.requirements _ v.requirements (requirement_stays c i new) in
    record { parts = v.parts; ranges = v.ranges; unions = v.unions; conditions = v.conditions; requirements = x; constraints = v.constraints; ceilings = m }
kept c (Item.constraint o r) p v m =
    let i = Item.constraint o r in
    let new : ConstraintFits c (record { owner = owner_of o; range = r }) = record {
      owner = owner_present c o (passes p 1);
      known = passes p 3;
      range = present c Thing.range r (passes p 2);
    } in
    let x = each_snoc (λ _. ConstraintFits (with_item c i)) _ c.constraints _ v.constraints (constraint_stays c i new) in
    record { parts = v.parts; ranges = v.ranges; unions = v.unions; conditions = v.conditions; requirements = v.requirements; constraints = x; ceilings = m }

-- ---- so every given catalogue is well formed

none_yet : WellFormed empty_catalogue
none_yet = record {
  parts = λ p h. absurd (not-suc-le-zero h);
  ranges = λ r h. absurd (not-suc-le-zero h);
  unions = λ u h. absurd (not-suc-le-zero h);
  conditions = λ k h. absurd (not-suc-le-zero h);
  requirements = λ q h. absurd (not-suc-le-zero h);
  constraints = λ k h. absurd (not-suc-le-zero h);
  ceilings = omega arith;
}

pub well_formed : {c : Catalogue} → Given c → WellFormed c
well_formed nothing = none_yet
well_formed (item {c = c} g i p) = let w = well_formed g in kept c i p (carried c i w) (ceilings_kept c i p w.ceilings)

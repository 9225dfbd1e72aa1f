-- A law for each way out of the functions for unions, requirements and constraints.
use mathlib.Core.Path.{◌≡◌, refl, sym, ◌∙◌, ap}
use mathlib.Core.Bool.{Bool, true, false, ◌&&◌, cond}
use mathlib.Core.List.{List}
use Prim.Native.Nat.{ℕ, suc, ◌+◌, ◌<◌, ◌≤◌}
use native.Mathlib.Omega.{arith}
use mathlib.Core.Option.{some, none}
use lib.Dec.{eqb, leb}
use borrow.Author.Tests.{lt-ltb, le-ltb, eq-eqb, ne_eqb}
use Rattle.std.specs.Prelude.{Ok, Err}
use Rattle.std.specs.Prelude as code
use Rattle.rules.specs.Catalogue.{Part, Catalogue, root, part, range, union, unknown_owner}
use Rattle.rules.specs.Refusals.{unless_any}
use Rattle.rules.specs.Refusals as rules
use Rattle.rules.specs.Records.{Item}
use Rattle.rules.specs.Items.{owner_of, condition_of, goal_of, at_ceiling, ceiling, absent, owner_absent, condition_absent, item_refusals, with_item, add_item}
use Rattle.refusal.specs.declared.Thing.TheVariants as Thing
use Rattle.refusal.specs.declared.Contradiction.TheVariants as Contradiction
use Rattle.refusal.specs.declared.Refusal.TheVariants.{TooMany, Missing, Contradicts}
use Rattle.refusal.specs.Refusing.{thing_of, contradiction_of, refusal_of}
use Rattle.requirement.specs.declared.Owner.{Owner}
use Rattle.requirement.specs.declared.Requirement.{Requirement}
use Rattle.requirement.specs.Requirements.{owner_is, condition_is, form_of, number_of, OwnerOf, ConditionOf}
use Rattle.requirement.specs.Requirements as goals
use Rattle.tables.specs.declared.Counts.{Counts}
use Rattle.tables.specs.Tables as T
use Rattle.tables.specs.Tables.{tables, with_union, with_requirement, with_constraint, stored_requirement, stored_constraint, requirement_from, constraint_from}
use Rattle.tables.proofs.Laws.{unions_counted}
use Rattle.marks.specs.Marks.{is_marked}
use Rattle.unions.specs.Unions.{Row, rows, row_of, pushed}
use Rattle.cache.specs.Areas.{assembled}
use Rattle.kept.specs.Kept.{Given}
use Rattle.kept.specs.Entered.{rows_of, rows_taken, answered, Entered}
use Rattle.kept.specs.Entering.{gathered}
use Rattle.kept.proofs.Fields.{full, not_full, none_such, one_such, put_is, unions_are, union_more, row_more, given_more}
use Rattle.kept.proofs.Fields.{parts_given, ranges_given, unions_given, conditions_given, requirements_given, constraints_given}
use Rattle.kept.proofs.Entered.{entered_refused, entered_well, part_is}
use Rattle.rule_items.specs.Such.{past, past_condition, unknown_in}

same_goal : (f n : ℕ) → goal_of (form_of (goal_of f n)) (number_of (goal_of f n)) ≡ goal_of f n
unfolding goal_of form_of number_of
same_goal f n = go (eqb f 0)
  where
    go : (b : Bool) → goal_of (form_of (cond b (range n) (union n))) (number_of (cond b (range n) (union n))) ≡ cond b (range n) (union n)
    go true = refl
    go false = refl

-- ---- the catalogue with one item more, as the tables have it

module _ (k : Counts) (n₀ : ℕ) (m u t : List ℕ) where
  with_union_law : Given k.unions (rows n₀ u) → assembled (with_union (tables k t)) (is_marked m) (rows n₀ u) ≡ with_item (gathered k n₀ m u t) Item.union
  unfolding assembled with_union with_item
  with_union_law g = rw (unions_counted k t, union_more k.unions (rows n₀ u) g)

  with_requirement_law : (o f n c : ℕ) (w : Owner) (g : Requirement) (q : code.Option ℕ) → OwnerOf o w → goals.goal_of g ≡ goal_of f n → ConditionOf c q
      → assembled (with_requirement (tables k t) (stored_requirement (record { owner = w; requirement = g; condition = q }))) (is_marked m) (rows n₀ u)
      ≡ with_item (gathered k n₀ m u t) (Item.requirement o f n c)
  unfolding assembled with_requirement stored_requirement requirement_from with_item
  with_requirement_law o f n c w g q x e y = rw (x.number, y.number, e, same_goal f n)

  with_constraint_law : (o r : ℕ) (w : Owner) → OwnerOf o w
      → assembled (with_constraint (tables k t) (stored_constraint (record { owner = w; range = r }))) (is_marked m) (rows n₀ u)
      ≡ with_item (gathered k n₀ m u t) (Item.constraint o r)
  unfolding assembled with_constraint stored_constraint constraint_from with_item
  with_constraint_law o r w x = rw x.number

  with_row : (u' : List ℕ) (n x r : ℕ) → x < k.unions → rows n u' ≡ pushed (rows n₀ u) (row_of (record { union = x; range = r }))
      → gathered k n m u' t ≡ with_item (gathered k n₀ m u t) (Item.union_member x r)
  unfolding assembled with_item row_of
  with_row u' n x r h e = rw (e, unions_counted k t, row_more k.unions (rows n₀ u) (record { union = x; range = r }) h)

-- ---- numbers of owners and conditions

a_part : (o p : ℕ) → OwnerOf o (Owner.Part p) → o ≡ 65535 → ⊥
unfolding owner_of
a_part o p x e = let z : part p ≡ root = x.is ∙ rw (eq-eqb o 65535 e) in cc

a_condition : (q p : ℕ) → ConditionOf q (code.Some p) → q ≡ 65535 → ⊥
unfolding condition_of
a_condition q p x e = let z : some p ≡ none = x.is ∙ rw (eq-eqb q 65535 e) in cc

-- ---- every way out

module _ (k : Counts) (n₀ : ℕ) (m u t : List ℕ) where
  abbrev c : Catalogue
  c = gathered k n₀ m u t

  -- ---- union, union member

  pub union_full : 128 ≤ k.unions → Entered c n₀ Item.union (Err (TooMany Thing.Union)) c n₀
  unfolding refusal_of thing_of add_item item_refusals unless_any ceiling
  union_full h = entered_refused (rw (full c rules.Thing.union (unions_given k n₀ m u t) h, unless_any))

  pub union_entered : k.unions < 128 → (r : Counts) (t' : List ℕ) → Given k.unions (rows n₀ u) → T.Added k r t' (with_union (tables k t)) → Entered c n₀ Item.union (Ok tt) (gathered r n₀ m u t') n₀
  unfolding add_item item_refusals unless_any ceiling rows_of
  union_entered l r t' g a =
      entered_well refl (rw (not_full c rules.Thing.union (unions_given k n₀ m u t) l, unless_any) (ap rules.ok (put_is a n₀ m u ∙ with_union_law k n₀ m u t g)))

  module _ (x r : ℕ) where
    pub row_unionless : k.unions ≤ x → Entered c n₀ (Item.union_member x r) (Err (Missing Thing.Union 1)) c n₀
    unfolding refusal_of thing_of add_item item_refusals unless_any
    row_unionless h = entered_refused (rw (none_such c rules.Thing.union (unions_given k n₀ m u t) h, unless_any))

    module _ (l : x < k.unions) where
      pub row_rangeless : k.ranges ≤ r → Entered c n₀ (Item.union_member x r) (Err (Missing Thing.Range 3)) c n₀
      unfolding refusal_of thing_of add_item item_refusals unless_any
      row_rangeless h =
          entered_refused (rw (one_such c rules.Thing.union (unions_given k n₀ m u t) l, none_such c rules.Thing.range (ranges_given k n₀ m u t) h, unless_any))

      pub row_entered : r < k.ranges → (n : ℕ) (u' : List ℕ) → n ≡ n₀ + 1 → rows n u' ≡ pushed (rows n₀ u) (row_of (record { union = x; range = r }))
          → Entered c n₀ (Item.union_member x r) (Ok tt) (gathered k n m u' t) n
      unfolding answered add_item item_refusals unless_any rows_of rows_taken
      row_entered i n u' e f =
          record {
            is =
                rw (one_such c rules.Thing.union (unions_given k n₀ m u t) l, one_such c rules.Thing.range (ranges_given k n₀ m u t) i, unless_any)
                (ap rules.ok (with_row k n₀ m u t u' n x r l f));
            members = e;
          }

  -- ---- requirement, constraint

  owner_past : (o : ℕ) (w : Owner) → OwnerOf o w → owner_absent c o ≡ past k.parts w
  unfolding owner_absent absent
  owner_past o Owner.Root x = rw (← x.number)
  owner_past o (Owner.Part p) x = rw (parts_given k n₀ m u t, ne_eqb o 65535 (a_part o p x), ← x.number)

  owner_unknown : (o : ℕ) (w : Owner) → OwnerOf o w → unknown_owner c (owner_of o) ≡ unknown_in (tables k t).parts w
  unfolding unknown_owner
  owner_unknown o Owner.Root x = ap (unknown_owner c) (sym x.is)
  owner_unknown o (Owner.Part p) x = ap (unknown_owner c) (sym x.is) ∙ ap (λ (q : Part). q.unknown) (part_is k n₀ m u t p)

  condition_past : (q : ℕ) (w : code.Option ℕ) → ConditionOf q w → condition_absent c q ≡ past_condition k.conditions w
  unfolding condition_absent absent
  condition_past q code.None x = rw (← x.number)
  condition_past q (code.Some p) x = rw (conditions_given k n₀ m u t, ne_eqb q 65535 (a_condition q p x), ← x.number)

  module _ (o f n q : ℕ) where
    abbrev requirement_item : Item
    requirement_item = Item.requirement o f n q

    pub requirement_full : 1024 ≤ k.requirements → Entered c n₀ requirement_item (Err (TooMany Thing.Requirement)) c n₀
    unfolding refusal_of thing_of add_item item_refusals unless_any ceiling
    requirement_full h = entered_refused (rw (full c rules.Thing.requirement (requirements_given k n₀ m u t) h, unless_any))

    module _ (l : k.requirements < 1024) (o' : Owner) (x' : OwnerOf o o') (a : Bool) (d : a ≡ past k.parts o') where
      space : at_ceiling c rules.Thing.requirement ≡ false
      unfolding ceiling
      space = not_full c rules.Thing.requirement (requirements_given k n₀ m u t) l

      pub requirement_ownerless : a ≡ true → Entered c n₀ requirement_item (Err (Missing Thing.Part 1)) c n₀
      unfolding refusal_of thing_of add_item item_refusals unless_any
      requirement_ownerless h = entered_refused (rw (space, owner_past o o' x', ← d, h, unless_any))

      module _ (w : a ≡ false) (x : Bool) (i : x ≡ (eqb f 0 && leb k.ranges n)) where
        owned : owner_absent c o ≡ false
        owned = owner_past o o' x' ∙ sym d ∙ w

        over_ranges : (eqb f 0 && absent c rules.Thing.range n) ≡ x
        unfolding absent
        over_ranges = rw (ranges_given k n₀ m u t, ← i)

        pub requirement_rangeless : x ≡ true → Entered c n₀ requirement_item (Err (Missing Thing.Range 4)) c n₀
        unfolding refusal_of thing_of add_item item_refusals unless_any
        requirement_rangeless h = entered_refused (rw (space, owned, over_ranges, h, unless_any))

        module _ (v : x ≡ false) (y : Bool) (j : y ≡ (eqb f 1 && leb k.unions n)) where
          over_unions : (eqb f 1 && absent c rules.Thing.union n) ≡ y
          unfolding absent
          over_unions = rw (unions_given k n₀ m u t, ← j)

          pub requirement_unionless : y ≡ true → Entered c n₀ requirement_item (Err (Missing Thing.Union 4)) c n₀
          unfolding refusal_of thing_of add_item item_refusals unless_any
          requirement_unionless h = entered_refused (rw (space, owned, over_ranges, v, over_unions, h, unless_any))

          module _ (s : y ≡ false) (q' : code.Option ℕ) (y' : ConditionOf q q') (z : Bool) (g : z ≡ past_condition k.conditions q') where
            pub requirement_conditionless : z ≡ true → Entered c n₀ requirement_item (Err (Missing Thing.Condition 6)) c n₀
            unfolding refusal_of thing_of add_item item_refusals unless_any
            requirement_conditionless h = entered_refused (rw (space, owned, over_ranges, v, over_unions, s, condition_past q q' y', ← g, h, unless_any))

            module _ (p : z ≡ false) where
              conditioned : condition_absent c q ≡ false
              conditioned = condition_past q q' y' ∙ sym g ∙ p

              pub requirement_form : 1 < f → Entered c n₀ requirement_item (Err (Contradicts Contradiction.OtherForm)) c n₀
              unfolding refusal_of contradiction_of add_item item_refusals unless_any
              requirement_form h = entered_refused (rw (space, owned, over_ranges, v, over_unions, s, conditioned, lt-ltb 1 f h, unless_any))

              module _ (b : f ≤ 1) (b' : Bool) (e : b' ≡ unknown_in (tables k t).parts o') where
                known : unknown_owner c (owner_of o) ≡ b'
                known = owner_unknown o o' x' ∙ sym e

                pub requirement_unknown : b' ≡ true → Entered c n₀ requirement_item (Err (Contradicts Contradiction.OwnerUnknown)) c n₀
                unfolding refusal_of contradiction_of add_item item_refusals unless_any
                requirement_unknown h =
                    entered_refused (rw (space, owned, over_ranges, v, over_unions, s, conditioned, le-ltb 1 f b, known, h, unless_any))

                pub requirement_entered : b' ≡ false → (r : Counts) (t' : List ℕ) (goal : Requirement) → goals.goal_of goal ≡ goal_of f n
                    → T.Added k r t' (with_requirement (tables k t) (stored_requirement (record { owner = o'; requirement = goal; condition = q' })))
                    → Entered c n₀ requirement_item (Ok tt) (gathered r n₀ m u t') n₀
                unfolding add_item item_refusals unless_any rows_of
                requirement_entered h r t' goal is a =
                    entered_well refl (
                    rw (space, owned, over_ranges, v, over_unions, s, conditioned, le-ltb 1 f b, known, h, unless_any)
                    (ap rules.ok (put_is a n₀ m u ∙ with_requirement_law k n₀ m u t o f n q o' goal q' x' is y'))
                    )

  module _ (o n : ℕ) where
    pub constraint_full : 512 ≤ k.constraints → Entered c n₀ (Item.constraint o n) (Err (TooMany Thing.Constraint)) c n₀
    unfolding refusal_of thing_of add_item item_refusals unless_any ceiling
    constraint_full h = entered_refused (rw (full c rules.Thing.constraint (constraints_given k n₀ m u t) h, unless_any))

    module _ (l : k.constraints < 512) (o' : Owner) (x' : OwnerOf o o') (a : Bool) (d : a ≡ past k.parts o') where
      place : at_ceiling c rules.Thing.constraint ≡ false
      unfolding ceiling
      place = not_full c rules.Thing.constraint (constraints_given k n₀ m u t) l

      pub constraint_ownerless : a ≡ true → Entered c n₀ (Item.constraint o n) (Err (Missing Thing.Part 1)) c n₀
      unfolding refusal_of thing_of add_item item_refusals unless_any
      constraint_ownerless h = entered_refused (rw (place, owner_past o o' x', ← d, h, unless_any))

      module _ (w : a ≡ false) where
        pub constraint_rangeless : k.ranges ≤ n → Entered c n₀ (Item.constraint o n) (Err (Missing Thing.Range 3)) c n₀
        unfolding refusal_of thing_of add_item item_refusals unless_any
        constraint_rangeless h =
            entered_refused (rw (place, owner_past o o' x', ← d, w, none_such c rules.Thing.range (ranges_given k n₀ m u t) h, unless_any))

        module _ (i : n < k.ranges) (b : Bool) (e : b ≡ unknown_in (tables k t).parts o') where
          told : unknown_owner c (owner_of o) ≡ b
          told = owner_unknown o o' x' ∙ sym e

          given_range : absent c rules.Thing.range n ≡ false
          given_range = one_such c rules.Thing.range (ranges_given k n₀ m u t) i

          pub constraint_unknown : b ≡ true → Entered c n₀ (Item.constraint o n) (Err (Contradicts Contradiction.OwnerUnknown)) c n₀
          unfolding refusal_of contradiction_of add_item item_refusals unless_any
          constraint_unknown h = entered_refused (rw (place, owner_past o o' x', ← d, w, given_range, told, h, unless_any))

          pub constraint_entered : b ≡ false → (r : Counts) (t' : List ℕ) → T.Added k r t' (with_constraint (tables k t) (stored_constraint (record { owner = o'; range = n })))
              → Entered c n₀ (Item.constraint o n) (Ok tt) (gathered r n₀ m u t') n₀
          unfolding add_item item_refusals unless_any rows_of
          constraint_entered h r t' a =
              entered_well refl (
              rw (place, owner_past o o' x', ← d, w, given_range, told, h, unless_any)
              (ap rules.ok (put_is a n₀ m u ∙ with_constraint_law k n₀ m u t o n o' x'))
              )

-- ---- unions that are not given yet have no rows

pub union_given : {k r : Counts} {t' : List ℕ} (t : List ℕ) {rs : List Row} → T.Added k r t' (with_union (tables k t)) → Given k.unions rs → Given r.unions rs
unfolding with_union
union_given {k} {r} t a g =
    let more : r.unions ≡ suc k.unions = unions_are a ∙ ap suc (unions_counted k t) in
    record { none_yet = λ v h. g.none_yet v (omega arith) }

pub row_given : (k n x r : ℕ) (u : List ℕ) (rs : List Row) → x < k → rows n u ≡ pushed rs (row_of (record { union = x; range = r })) → Given k rs → Given k (rows n u)
unfolding row_of
row_given k n x r u rs h e g = rw e (given_more k rs (record { union = x; range = r }) h g)

-- A law for each way out of the functions for leaf and joined conditions.
use mathlib.Core.Path.{◌≡◌, refl, ◌∙◌, ap}
use mathlib.Core.Bool.{false}
use mathlib.Core.List.{List}
use Prim.Native.Nat.{ℕ, ◌<◌, ◌≤◌}
use Rattle.std.specs.Prelude.{Ok, Err}
use lib.Dec.{ltb}
use lib.ListN.{length}
use borrow.Author.Tests.{lt-ltb, le-ltb}
use Rattle.rules.specs.Lists.{snoc}
use Rattle.rules.specs.Catalogue.{Condition, leaf, joined, Catalogue}
use Rattle.rules.specs.Conditions.{Disjunct, disjuncts, too_wide, too_many_disjuncts}
use Rattle.rules.specs.Refusals.{unless_any}
use Rattle.rules.specs.Refusals as rules
use Rattle.rules.specs.Records.{Item}
use Rattle.rules.specs.Items.{operator_of, ceiling, at_ceiling, absent, item_refusals, with_item, add_item}
use Rattle.refusal.specs.declared.Thing.TheVariants as Thing
use Rattle.refusal.specs.declared.Contradiction.TheVariants as Contradiction
use Rattle.refusal.specs.declared.Refusal.{Refusal}
use Rattle.refusal.specs.declared.Refusal.TheVariants.{TooMany, Missing, Contradicts, DisjunctsOver, RangesOver}
use Rattle.refusal.specs.Refusing.{thing_of, contradiction_of, refusal_of}
use Rattle.tables.specs.declared.Counts.{Counts}
use Rattle.tables.specs.declared.Condition as C
use Rattle.tables.specs.declared.Size as S
use Rattle.tables.specs.Tables as T
use Rattle.tables.specs.Tables.{tables, with_condition, condition_is, size_is, size_from}
use Rattle.tables.proofs.Laws.{conditions_counted}
use Rattle.marks.specs.Marks.{is_marked}
use Rattle.unions.specs.Unions.{rows}
use Rattle.conditions.specs.Sizes.{size_of, Earlier, Sized}
use Rattle.conditions.proofs.Kept.{too_many_by, too_wide_by, sized_leaf, sized_joined}
use Rattle.cache.specs.Areas.{assembled}
use Rattle.kept.specs.Entered.{rows_of, Entered}
use Rattle.kept.specs.Entering.{gathered}
use Rattle.kept.proofs.Fields.{full, not_full, none_such, one_such, put_is, ranges_given, conditions_given}
use Rattle.kept.proofs.Entered.{entered_refused, entered_well}

-- ---- every way out

module _ (k : Counts) (n₀ : ℕ) (m u t : List ℕ) where
  abbrev c : Catalogue
  c = gathered k n₀ m u t

  space : k.conditions < 256 → at_ceiling c rules.Thing.condition ≡ false
  unfolding ceiling
  space l = not_full c rules.Thing.condition (conditions_given k n₀ m u t) l

  -- ---- leaf

  with_leaf : (r : ℕ) (z : T.Size)
      → assembled (with_condition (tables k t) (leaf r) z) (is_marked m) (rows n₀ u) ≡ with_item c (Item.leaf r)
  unfolding assembled with_condition with_item
  with_leaf r z = refl

  module _ (r : ℕ) where
    pub leaf_full : 256 ≤ k.conditions → Entered c n₀ (Item.leaf r) (Err (TooMany Thing.Condition)) c n₀
    unfolding refusal_of thing_of add_item item_refusals unless_any ceiling
    leaf_full h = entered_refused (rw (full c rules.Thing.condition (conditions_given k n₀ m u t) h, unless_any))

    module _ (l : k.conditions < 256) where
      pub leaf_rangeless : k.ranges ≤ r → Entered c n₀ (Item.leaf r) (Err (Missing Thing.Range 1)) c n₀
      unfolding refusal_of thing_of add_item item_refusals unless_any
      leaf_rangeless h = entered_refused (rw (space l, none_such c rules.Thing.range (ranges_given k n₀ m u t) h, unless_any))

      pub leaf_entered : r < k.ranges → (q : Counts) (t' : List ℕ) (z : T.Size) → T.Added k q t' (with_condition (tables k t) (leaf r) z)
          → Entered c n₀ (Item.leaf r) (Ok tt) (gathered q n₀ m u t') n₀
      unfolding add_item item_refusals unless_any rows_of
      leaf_entered i q t' z a =
          entered_well refl (rw (space l, one_such c rules.Thing.range (ranges_given k n₀ m u t) i, unless_any) (ap rules.ok (put_is a n₀ m u ∙ with_leaf r z)))

  -- ---- joined

  module _ (o l r : ℕ) where
    abbrev joined_item : Item
    joined_item = Item.joined o l r

    abbrev ds : List Disjunct
    ds = disjuncts (snoc (tables k t).conditions (joined (operator_of o) l r)) (length (tables k t).conditions)

    same_ds : disjuncts (snoc c.conditions (joined (operator_of o) l r)) (length c.conditions) ≡ ds
    unfolding assembled
    same_ds = refl

    pub joined_full : 256 ≤ k.conditions → Entered c n₀ joined_item (Err (TooMany Thing.Condition)) c n₀
    unfolding refusal_of thing_of add_item item_refusals unless_any ceiling
    joined_full h = entered_refused (rw (full c rules.Thing.condition (conditions_given k n₀ m u t) h, unless_any))

    module _ (f₀ : k.conditions < 256) where
      pub joined_leftless : k.conditions ≤ l → Entered c n₀ joined_item (Err (Missing Thing.Condition 2)) c n₀
      unfolding refusal_of thing_of add_item item_refusals unless_any
      joined_leftless h = entered_refused (rw (space f₀, none_such c rules.Thing.condition (conditions_given k n₀ m u t) h, unless_any))

      module _ (i : l < k.conditions) where
        left_there : absent c rules.Thing.condition l ≡ false
        left_there = one_such c rules.Thing.condition (conditions_given k n₀ m u t) i

        pub joined_rightless : k.conditions ≤ r → Entered c n₀ joined_item (Err (Missing Thing.Condition 4)) c n₀
        unfolding refusal_of thing_of add_item item_refusals unless_any
        joined_rightless h = entered_refused (rw (space f₀, left_there, none_such c rules.Thing.condition (conditions_given k n₀ m u t) h, unless_any))

        module _ (j : r < k.conditions) where
          right_there : absent c rules.Thing.condition r ≡ false
          right_there = one_such c rules.Thing.condition (conditions_given k n₀ m u t) j

          pub joined_operator : (f : Refusal) → (1 < o) × (f ≡ Contradicts Contradiction.OtherOperator) → Entered c n₀ joined_item (Err f) c n₀
          unfolding refusal_of contradiction_of add_item item_refusals unless_any
          joined_operator f h = entered_refused (rw (h.1, space f₀, left_there, right_there, lt-ltb 1 o h.0, unless_any))

          module _ (x : C.Condition) (g : (o ≤ 1) × (condition_is x ≡ joined (operator_of o) l r)) (z : S.Size) (k' : Counts) (b' : List ℕ) (p : k' ≡ k) (p' : b' ≡ t)
              (e : size_is z ≡ size_of (disjuncts (snoc (tables k' b').conditions (condition_is x)) (length (tables k' b').conditions))) where
            sized_as : size_is z ≡ size_of ds
            sized_as = rw (p, p', g.1) at e

            many : too_many_disjuncts (disjuncts (snoc c.conditions (joined (operator_of o) l r)) (length c.conditions)) ≡ ltb 64 z.count
            many = ap too_many_disjuncts same_ds ∙ too_many_by z ds sized_as

            wide : too_wide (disjuncts (snoc c.conditions (joined (operator_of o) l r)) (length c.conditions)) ≡ ltb 16 z.longest
            wide = ap too_wide same_ds ∙ too_wide_by z ds sized_as

            pub joined_many : 64 < z.count → Entered c n₀ joined_item (Err DisjunctsOver) c n₀
            unfolding refusal_of add_item item_refusals unless_any
            joined_many h = entered_refused (rw (space f₀, left_there, right_there, le-ltb 1 o g.0, many, lt-ltb 64 z.count h, unless_any))

            module _ (y : z.count ≤ 64) where
              pub joined_wide : 16 < z.longest → Entered c n₀ joined_item (Err RangesOver) c n₀
              unfolding refusal_of add_item item_refusals unless_any
              joined_wide h = entered_refused (rw (space f₀, left_there, right_there, le-ltb 1 o g.0, many, le-ltb 64 z.count y, wide, lt-ltb 16 z.longest h, unless_any))

              with_joined : assembled (with_condition (tables k t) (joined (operator_of o) l r) (size_is z)) (is_marked m) (rows n₀ u) ≡ with_item c joined_item
              unfolding assembled with_condition with_item
              with_joined = refl

              module _ (w : z.longest ≤ 16) (q : Counts) (t' : List ℕ) (a : T.Added k q t' (with_condition (tables k t) (condition_is x) (size_is z))) where
                pub joined_entered : Entered c n₀ joined_item (Ok tt) (gathered q n₀ m u t') n₀
                unfolding add_item item_refusals unless_any rows_of
                joined_entered =
                    entered_well refl (
                    rw (space f₀, left_there, right_there, le-ltb 1 o g.0, many, le-ltb 64 z.count y, wide, le-ltb 16 z.longest w, unless_any)
                    (ap rules.ok (put_is a n₀ m u ∙ rw g.1 with_joined))
                    )

-- ---- sizes stay right

pub leaf_sized : {k q : Counts} {t' : List ℕ} (t : List ℕ) (r : ℕ) → T.Added k q t' (with_condition (tables k t) (leaf r) (size_is (record { count = 1; longest = 1 }))) → Sized (tables k t) → Sized (tables q t')
unfolding size_is size_from
leaf_sized {k} t r a s = rw a.is (sized_leaf (tables k t) s r)

pub joined_sized : {k q : Counts} {t' : List ℕ} (t : List ℕ) (x : C.Condition) (z : S.Size) → T.Added k q t' (with_condition (tables k t) (condition_is x) (size_is z))
    → (o l r : ℕ) → (o ≤ 1) × (condition_is x ≡ joined (operator_of o) l r) → l < k.conditions → r < k.conditions
    → (k' : Counts) (b' : List ℕ) → k' ≡ k → b' ≡ t → size_is z ≡ size_of (disjuncts (snoc (tables k' b').conditions (condition_is x)) (length (tables k' b').conditions))
    → z.count ≤ 64 → z.longest ≤ 16 → Sized (tables k t) → Sized (tables q t')
joined_sized {k} t x z a o l r g i j k' b' p p' e y w s =
    let n = conditions_counted k t in
    rw (a.is, g.1) (sized_joined (tables k t) s (operator_of o) l r (size_is z) (rw n i) (rw n j) (rw (p, p', g.1) at e) (unfold size_is size_from in y) (unfold size_is size_from in w))

pub earlier_joined : (n o l r : ℕ) (x : Condition) → (o ≤ 1) × (x ≡ joined (operator_of o) l r) → l < n → r < n → Earlier n x
earlier_joined n o l r x g i j = rw g.1 (i, j)

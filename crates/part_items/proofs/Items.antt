-- A law for each way out of the functions for names, parts, ranges and members.
use mathlib.Core.Path.{◌≡◌, refl, sym, ◌∙◌, ap}
use mathlib.Core.Bool.{Bool, true, false, ◌&&◌}
use mathlib.Core.List.{List}
use Prim.Native.Nat.{ℕ, ◌<◌, ◌≤◌}
use Rattle.std.specs.Prelude.{Ok, Err}
use lib.Dec.{eqb}
use lib.ListN.{length, get_or}
use borrow.Author.Tests.{lt-ltb, le-ltb, eq-eqb, ne_eqb}
use Rattle.rules.specs.AtMostOne.{bit}
use Rattle.rules.specs.Catalogue.{Part, Catalogue, no_part, part_at, no_range, range_at}
use Rattle.rules.specs.Refusals.{unless_any}
use Rattle.rules.specs.Refusals as rules
use Rattle.rules.specs.Records.{Item}
use Rattle.rules.specs.Items.{part_of, ceiling, at_ceiling, absent, of_same_name, item_refusals, with_item, add_item}
use Rattle.refusal.specs.declared.Thing.TheVariants as Thing
use Rattle.refusal.specs.declared.Contradiction.TheVariants as Contradiction
use Rattle.refusal.specs.declared.Refusal.TheVariants.{TooMany, Missing, Contradicts}
use Rattle.refusal.specs.Refusing.{thing_of, contradiction_of, refusal_of}
use Rattle.tables.specs.declared.Counts.{Counts}
use Rattle.tables.specs.Tables as T
use Rattle.tables.specs.Tables.{tables, with_name, with_part, with_range}
use Rattle.tables.specs.declared.Flag.TheVariants as Flag
use Rattle.tables.proofs.Laws.{ranges_counted}
use Rattle.tables.proofs.Listed.{listed_at}
use Rattle.marks.specs.Marks.{is_marked, Marked, Cleared}
use Rattle.marks.proofs.Laws.{marked_row, marked_other, cleared_row, cleared_other}
use Rattle.unions.specs.Unions.{rows}
use Rattle.cache.specs.Areas.{assembled}
use Rattle.kept.specs.Entered.{rows_of, Entered}
use Rattle.kept.specs.Entering.{gathered}
use Rattle.kept.proofs.Fields.{full, not_full, none_such, one_such, put_is, range_more, member_more, names_given, parts_given, ranges_given}
use Rattle.kept.proofs.Entered.{entered_refused, entered_well, part_is}
use Rattle.part_items.specs.Second.{is_second}

-- ---- the catalogue with one item more, as the tables have it

module _ (k : Counts) (n₀ : ℕ) (m u t : List ℕ) where
  with_name_law : (f : ℕ) → assembled (with_name (tables k t) (bit 0 f)) (is_marked m) (rows n₀ u) ≡ with_item (gathered k n₀ m u t) (Item.name f)
  unfolding assembled with_name with_item
  with_name_law f = refl

  pub with_part_law : (n f x e : ℕ) → assembled (with_part (tables k t) (part_of n f x e)) (is_marked m) (rows n₀ u) ≡ with_item (gathered k n₀ m u t) (Item.part n f x e)
  unfolding assembled with_part with_item
  with_part_law n f x e = refl

  with_range_law : (m' : List ℕ) (n : ℕ) → Cleared m m' k.ranges
      → assembled (with_range (tables k t) n) (is_marked m') (rows n₀ u) ≡ with_item (gathered k n₀ m u t) (Item.range n)
  unfolding assembled with_range with_item
  with_range_law m' n c =
      let l = ranges_counted k t in
      rw (range_more (tables k t).ranges n (is_marked m) (is_marked m') (rw l (cleared_row c)) (λ s e. cleared_other c s (λ q. e (q ∙ sym l))))

  with_member_law : (m' : List ℕ) (r p : ℕ) → r < k.ranges → Marked m m' r p
      → gathered k n₀ m' u t ≡ with_item (gathered k n₀ m u t) (Item.member r p)
  unfolding assembled with_item range_at
  with_member_law m' r p h x =
      let l : r < length (tables k t).ranges = rw (ranges_counted k t) h in
      rw (member_more (tables k t).ranges r p (is_marked m) (is_marked m') l (marked_row x) (marked_other x))

-- ---- every way out

module _ (k : Counts) (n₀ : ℕ) (m u t : List ℕ) where
  abbrev c : Catalogue
  c = gathered k n₀ m u t

  -- ---- name

  pub name_full : (f : ℕ) → 64 ≤ k.names → Entered c n₀ (Item.name f) (Err (TooMany Thing.Name)) c n₀
  unfolding refusal_of thing_of add_item item_refusals unless_any ceiling
  name_full f h = entered_refused (rw (full c rules.Thing.name (names_given k n₀ m u t) h, unless_any))

  module _ (f : ℕ) (l : k.names < 64) where
    pub name_bits : 1 < f → Entered c n₀ (Item.name f) (Err (Contradicts Contradiction.OtherBits)) c n₀
    unfolding refusal_of contradiction_of add_item item_refusals unless_any ceiling
    name_bits h = entered_refused (rw (not_full c rules.Thing.name (names_given k n₀ m u t) l, lt-ltb 1 f h, unless_any))

    pub name_entered : (r : Counts) (t' : List ℕ) → f ≤ 1 → T.Added k r t' (with_name (tables k t) (bit 0 f)) → Entered c n₀ (Item.name f) (Ok tt) (gathered r n₀ m u t') n₀
    unfolding add_item item_refusals unless_any ceiling rows_of
    name_entered r t' g a =
        entered_well refl (rw (not_full c rules.Thing.name (names_given k n₀ m u t) l, le-ltb 1 f g, unless_any) (ap rules.ok (put_is a n₀ m u ∙ with_name_law k n₀ m u t f)))

  -- ---- part

  module _ (n f x e : ℕ) where
    abbrev part_item : Item
    part_item = Item.part n f x e

    pub part_full : 1024 ≤ k.parts → Entered c n₀ part_item (Err (TooMany Thing.Part)) c n₀
    unfolding refusal_of thing_of add_item item_refusals unless_any ceiling
    part_full h = entered_refused (rw (full c rules.Thing.part (parts_given k n₀ m u t) h, unless_any))

    module _ (l : k.parts < 1024) where
      room : at_ceiling c rules.Thing.part ≡ false
      unfolding ceiling
      room = not_full c rules.Thing.part (parts_given k n₀ m u t) l

      pub part_nameless : k.names ≤ n → Entered c n₀ part_item (Err (Missing Thing.Name 1)) c n₀
      unfolding refusal_of thing_of add_item item_refusals unless_any
      part_nameless h = entered_refused (rw (room, none_such c rules.Thing.name (names_given k n₀ m u t) h, unless_any))

      module _ (i : n < k.names) where
        named : absent c rules.Thing.name n ≡ false
        named = one_such c rules.Thing.name (names_given k n₀ m u t) i

        pub part_bits : 31 < f → Entered c n₀ part_item (Err (Contradicts Contradiction.OtherBits)) c n₀
        unfolding refusal_of contradiction_of add_item item_refusals unless_any
        part_bits h = entered_refused (rw (room, named, lt-ltb 31 f h, unless_any))

        module _ (o : f ≤ 31) where
          module _ (a : Bool) (d : a ≡ is_second (tables k t).parts Flag.Locked n f) where
            locked_twice : (bit 2 f && of_same_name c (λ (q : Part). q.locked) n) ≡ a
            unfolding is_second of_same_name assembled
            locked_twice = sym d

            pub part_locked : a ≡ true → Entered c n₀ part_item (Err (Contradicts Contradiction.SecondLocked)) c n₀
            unfolding refusal_of contradiction_of add_item item_refusals unless_any
            part_locked h = entered_refused (rw (room, named, le-ltb 31 f o, locked_twice, h, unless_any))

            module _ (w : a ≡ false) (b : Bool) (g : b ≡ is_second (tables k t).parts Flag.Favoured n f) where
              favoured_twice : (bit 3 f && of_same_name c (λ (q : Part). q.favoured) n) ≡ b
              unfolding is_second of_same_name assembled
              favoured_twice = sym g

              pub part_favoured : b ≡ true → Entered c n₀ part_item (Err (Contradicts Contradiction.SecondFavoured)) c n₀
              unfolding refusal_of contradiction_of add_item item_refusals unless_any
              part_favoured h = entered_refused (rw (room, named, le-ltb 31 f o, locked_twice, w, favoured_twice, h, unless_any))

              pub part_entered : b ≡ false → (r : Counts) (t' : List ℕ) → T.Added k r t' (with_part (tables k t) (part_of n f x e)) → Entered c n₀ part_item (Ok tt) (gathered r n₀ m u t') n₀
              unfolding add_item item_refusals unless_any rows_of
              part_entered z r t' y =
                  entered_well refl (rw (room, named, le-ltb 31 f o, locked_twice, w, favoured_twice, z, unless_any) (ap rules.ok (put_is y n₀ m u ∙ with_part_law k n₀ m u t n f x e)))

  -- ---- range

  module _ (n : ℕ) where
    pub range_full : 512 ≤ k.ranges → Entered c n₀ (Item.range n) (Err (TooMany Thing.Range)) c n₀
    unfolding refusal_of thing_of add_item item_refusals unless_any ceiling
    range_full h = entered_refused (rw (full c rules.Thing.range (ranges_given k n₀ m u t) h, unless_any))

    module _ (l : k.ranges < 512) where
      pub range_nameless : k.names ≤ n → Entered c n₀ (Item.range n) (Err (Missing Thing.Name 1)) c n₀
      unfolding refusal_of thing_of add_item item_refusals unless_any ceiling
      range_nameless h =
          entered_refused (rw (not_full c rules.Thing.range (ranges_given k n₀ m u t) l, none_such c rules.Thing.name (names_given k n₀ m u t) h, unless_any))

      pub range_entered : n < k.names → (r : Counts) (m' t' : List ℕ) → Cleared m m' k.ranges
          → T.Added k r t' (with_range (tables k t) n) → Entered c n₀ (Item.range n) (Ok tt) (gathered r n₀ m' u t') n₀
      unfolding add_item item_refusals unless_any ceiling rows_of
      range_entered i r m' t' z a =
          entered_well refl (
          rw (not_full c rules.Thing.range (ranges_given k n₀ m u t) l, one_such c rules.Thing.name (names_given k n₀ m u t) i, unless_any)
          (ap rules.ok (put_is a n₀ m' u ∙ with_range_law k n₀ m u t m' n z))
          )

  -- ---- member

  range_is : (r : ℕ) → r < k.ranges → range_at c r ≡ record { name = get_or (tables k t).ranges r 0; members = is_marked m r }
  unfolding range_at assembled
  range_is r h = listed_at (length (tables k t).ranges) _ r no_range (rw (ranges_counted k t) h)

  module _ (r p : ℕ) where
    pub member_rangeless : k.ranges ≤ r → Entered c n₀ (Item.member r p) (Err (Missing Thing.Range 1)) c n₀
    unfolding refusal_of thing_of add_item item_refusals unless_any
    member_rangeless h = entered_refused (rw (none_such c rules.Thing.range (ranges_given k n₀ m u t) h, unless_any))

    module _ (l : r < k.ranges) where
      ranged : absent c rules.Thing.range r ≡ false
      ranged = one_such c rules.Thing.range (ranges_given k n₀ m u t) l

      pub member_partless : k.parts ≤ p → Entered c n₀ (Item.member r p) (Err (Missing Thing.Part 3)) c n₀
      unfolding refusal_of thing_of add_item item_refusals unless_any
      member_partless h = entered_refused (rw (ranged, none_such c rules.Thing.part (parts_given k n₀ m u t) h, unless_any))

      module _ (i : p < k.parts) (x y : ℕ) (d : x ≡ (get_or (tables k t).parts p no_part).name) (e : y ≡ get_or (tables k t).ranges r 0) where
        parted : absent c rules.Thing.part p ≡ false
        parted = one_such c rules.Thing.part (parts_given k n₀ m u t) i

        compared : eqb (part_at c p).name (range_at c r).name ≡ eqb x y
        compared = rw (part_is k n₀ m u t p, range_is r l, ← d, ← e)

        pub member_other_name : (x ≡ y → ⊥) → Entered c n₀ (Item.member r p) (Err (Contradicts Contradiction.PartOfAnotherName)) c n₀
        unfolding refusal_of contradiction_of add_item item_refusals unless_any
        member_other_name h = entered_refused (rw (ranged, parted, compared, ne_eqb x y h, unless_any))

        module _ (s : x ≡ y) (b : Bool) (f : b ≡ is_marked m r p) where
          known : (range_at c r).members p ≡ b
          known = rw (range_is r l, ← f)

          pub member_twice_law : b ≡ true → Entered c n₀ (Item.member r p) (Err (Contradicts Contradiction.MemberTwice)) c n₀
          unfolding refusal_of contradiction_of add_item item_refusals unless_any
          member_twice_law h = entered_refused (rw (ranged, parted, compared, eq-eqb x y s, known, h, unless_any))

          pub member_entered : b ≡ false → (m' : List ℕ) → Marked m m' r p → Entered c n₀ (Item.member r p) (Ok tt) (gathered k n₀ m' u t) n₀
          unfolding add_item item_refusals unless_any rows_of
          member_entered h m' w =
              entered_well refl (rw (ranged, parted, compared, eq-eqb x y s, known, h, unless_any) (ap rules.ok (with_member_law k n₀ m u t m' r p l w)))

-- The disjuncts of a condition against their code: a law for each call and each way out.
use mathlib.Core.Path.{◌≡◌, refl, sym, ap, ◌∙◌}
use mathlib.Core.List.{List, [], ◌∷◌, ◌++◌, append_assoc}
use Prim.Native.Nat.{ℕ, ◌+◌, ◌-◌, ◌*◌, ◌/◌, ◌%◌, ◌<◌, ◌≤◌}
use native.Mathlib.Nat.{div-lt_iff_lt-mul, mod-lt}
use native.Mathlib.Numerals.{add-one}
use native.Mathlib.Omega.{arith}
use lib.ListN.{length, get_or, set, length-append}
use lib.Seq.{take-suc-set, get_or-take}
use Rattle.rules.specs.Catalogue.{Operator, and, or, Condition, joined, no_condition}
use Rattle.rules.specs.Conditions.{Disjunct, combined, disjuncts}
use Rattle.rules.proofs.DisjunctLaws.{disjuncts_leaf, disjuncts_joined, length_or, length_and, or_left, or_right, and_at}
use Rattle.tables.specs.declared.Counts.{Counts}
use Rattle.tables.specs.declared.Condition as C
use Rattle.tables.specs.declared.Condition.TheVariants as row
use Rattle.tables.specs.Tables.{tables, condition_is}
use Rattle.tables.proofs.Laws.{conditions_counted}
use Rattle.conditions.specs.declared.Disjunct as D
use Rattle.conditions.specs.declared.Source.{Source}
use Rattle.conditions.specs.declared.Source.TheVariants.{Range, Half, Halves}
use Rattle.conditions.specs.Sizes.{Sized, Counted, Earlier}
use Rattle.conditions.specs.Disjuncts.{ranges_of, Carries, Appended, worked, Before, AllBefore, From}
use Rattle.conditions.proofs.Longest.{at_most_longest}

-- ---- ranges behind others

-- these and then those
then_more : {d e r : D.Disjunct} {xs ys zs : List ℕ} → Appended d xs e → Appended e ys r → zs ≡ xs ++ ys → Appended d zs r
then_more {d} {e} {r} {xs} {ys} p q z =
    record { len = rw z (omega (arith, p.len, q.len, length-append xs ys)); is = rw z (q.is ∙ rw p.is (append_assoc (ranges_of d) xs ys)) }

pub one_more : (d : D.Disjunct) (x : ℕ) → d.len < 16 → length d.ranges ≡ 16 → (b : d.len + 1 ≤ 16)
    → Appended d (x ∷ []) (record { ranges = set d.ranges d.len x; len = d.len + 1; bounded = b })
unfolding ranges_of
one_more d x h e b =
    let inside : d.len < length d.ranges = omega arith in
    record { len = refl; is = rw (add-one d.len) (take-suc-set d.ranges d.len x inside) }

-- ---- condition c, whose row is x

module _ (k : Counts) (b : List ℕ) (c i : ℕ) (x : C.Condition) (s : Sized (tables k b)) (h : c < k.conditions)
    (e : condition_is x ≡ get_or (tables k b).conditions c no_condition) (g : i < length (disjuncts (tables k b).conditions c)) where
  abbrev cs : List Condition
  cs = (tables k b).conditions

  pub from_leaf : (r : ℕ) → x ≡ row.Range r → From cs c i (Range r)
  unfolding worked
  from_leaf r f =
      let all : disjuncts cs c ≡ (r ∷ []) ∷ [] = disjuncts_leaf cs c r (sym e ∙ rw f) in
      let q : i < 1 = rw all at g in
      let z : i ≡ 0 = omega arith in
      record { is = rw (all, z); before = tt }

  halves : (o : Operator) (l r : ℕ) → condition_is x ≡ joined o l r → Earlier c (joined o l r)
  halves o l r f =
      let q = s.earlier c (rw (conditions_counted k b) h) in
      rw (sym e ∙ f) at q

  all : (o : Operator) (l r : ℕ) → condition_is x ≡ joined o l r → disjuncts cs c ≡ combined o (disjuncts cs l) (disjuncts cs r)
  all o l r f = let q = halves o l r f in disjuncts_joined cs c o l r (sym e ∙ f) q.0 q.1

  module _ (l r : ℕ) where
    abbrev ls : List Disjunct
    ls = disjuncts cs l

    abbrev rs : List Disjunct
    rs = disjuncts cs r

    -- all the disjuncts of the right half behind each of the left one
    module _ (f : x ≡ row.And l r) where
      joined_and : condition_is x ≡ joined and l r
      joined_and = rw f

      pub right_given : r < k.conditions
      right_given = let q = halves and l r joined_and in omega (arith, q.1)

      pub from_and : (n : ℕ) → Counted cs r n → From cs c i (Halves l (i / n) r (i % n))
      unfolding worked
      from_and n p =
          let there : i < length ls * length rs = rw (all and l r joined_and, length_and ls rs) at g in
          let some : 0 < length rs = omega (arith, p.is, p.some) in
          let q = halves and l r joined_and in
          let before_left : Before cs c l (i / n) = record { earlier = q.0; there = rw p.is ((div-lt_iff_lt-mul some).1 there) } in
          let before_right : Before cs c r (i % n) = record { earlier = q.1; there = rw p.is (mod-lt i some) } in
          record { is = rw (all and l r joined_and, p.is) (and_at ls rs i there); before = (before_left, before_right) }

    -- the disjuncts of the left half, and then those of the right one
    module _ (f : x ≡ row.Or l r) where
      joined_or : condition_is x ≡ joined or l r
      joined_or = rw f

      pub left_given : l < k.conditions
      left_given = let q = halves or l r joined_or in omega (arith, q.0)

      module _ (n : ℕ) (p : Counted cs l n) where
        pub from_left : i < n → From cs c i (Half l i)
        unfolding worked
        from_left a =
            let there : i < length ls = rw (← p.is) a in
            let q = halves or l r joined_or in
            record { is = rw (all or l r joined_or) (or_left ls rs i there); before = record { earlier = q.0; there = there } }

        pub from_right : n ≤ i → From cs c i (Half r (i - n))
        unfolding worked
        from_right a =
            let either : i < length ls + length rs = rw (all or l r joined_or, length_or ls rs) at g in
            let past : length ls ≤ i = rw (← p.is) a in
            let there : i - n < length rs = omega (arith, p.is) in
            let q = halves or l r joined_or in
            record { is = rw (all or l r joined_or, p.is) (or_right ls rs i past); before = record { earlier = q.1; there = there } }

-- ---- condition c, by where its disjunct i comes from

all_before : (cs : List Condition) {h c : ℕ} (s : Source) → h ≤ c → AllBefore cs h s → AllBefore cs c s
all_before cs (Range r) e p = p
all_before cs (Half l i) e p = record { earlier = omega (arith, p.earlier); there = p.there }
all_before cs (Halves l i r j) e p = (record { earlier = omega (arith, p.0.earlier); there = p.0.there }, record { earlier = omega (arith, p.1.earlier); there = p.1.there })

-- ---- the halves of an `or` are followed

-- how often that may still happen
abbrev pub steps : Source → ℕ
steps (Range r) = 0
steps (Half h i) = h + 1
steps (Halves l i r j) = 0

-- ---- disjunct i of condition c, by where it comes from

module _ {cs : List Condition} {c i : ℕ} {s : Source} (f : From cs c i s) where
  abbrev this : Disjunct
  this = get_or (disjuncts cs c) i []

  module _ (x : ℕ) (e : s ≡ Range x) where
    range_one : this ≡ x ∷ []
    unfolding worked
    range_one = f.is ∙ rw e

    pub range_room : (n : ℕ) → n + length this ≤ 16 → n < 16
    range_room n a = let q = rw range_one at a in omega arith

    pub range_is : {d r : D.Disjunct} → Appended d (x ∷ []) r → Appended d this r
    range_is p = rw range_one p

  module _ (h j : ℕ) (e : s ≡ Half h j) where
    half_one : this ≡ get_or (disjuncts cs h) j []
    unfolding worked
    half_one = f.is ∙ rw e

    half_before : Before cs c h j
    half_before = let q = f.before in rw e at q

    pub half_there : j < length (disjuncts cs h)
    half_there = half_before.there

    pub half_below : {t : ℕ} → c < t → h < t
    half_below q = omega (arith, half_before.earlier)

    pub half_followed : {t : Source} → From cs h j t → From cs c i t
    half_followed {t = t} g = record { is = half_one ∙ g.is; before = all_before cs t (omega (arith, half_before.earlier)) g.before }

    pub half_falls : (t : ℕ) → c ≡ t → h < t
    half_falls t q = omega (arith, half_before.earlier)

    pub half_room : (n : ℕ) → n + length this ≤ 16 → n + length (get_or (disjuncts cs h) j []) ≤ 16
    half_room n a = rw half_one at a

    pub half_is : {d r : D.Disjunct} → Appended d (get_or (disjuncts cs h) j []) r → Appended d this r
    half_is p = rw half_one p

  module _ (l m r n : ℕ) (e : s ≡ Halves l m r n) where
    abbrev first : Disjunct
    first = get_or (disjuncts cs l) m []

    abbrev second : Disjunct
    second = get_or (disjuncts cs r) n []

    halves_both : this ≡ first ++ second
    unfolding worked
    halves_both = f.is ∙ rw e

    halves_before : Before cs c l m × Before cs c r n
    halves_before = let q = f.before in rw e at q

    halves_room : (z : ℕ) → z + length this ≤ 16 → z + length first + length second ≤ 16
    halves_room z a = omega (arith, rw halves_both at a, length-append first second)

    pub left_falls : (t : ℕ) → c ≡ t → l < t
    left_falls t q = omega (arith, halves_before.0.earlier)

    pub right_falls : (t : ℕ) → c ≡ t → r < t
    right_falls t q = omega (arith, halves_before.1.earlier)

    pub left_below : {t : ℕ} → c < t → l < t
    left_below q = omega (arith, halves_before.0.earlier)

    pub right_below : {t : ℕ} → c < t → r < t
    right_below q = omega (arith, halves_before.1.earlier)

    pub left_there : m < length (disjuncts cs l)
    left_there = halves_before.0.there

    pub right_there : n < length (disjuncts cs r)
    right_there = halves_before.1.there

    pub left_room : (z : ℕ) → z + length this ≤ 16 → z + length first ≤ 16
    left_room z a = omega (arith, halves_room z a)

    pub right_room : {d q : D.Disjunct} → d.len + length this ≤ 16 → Appended d first q → q.len + length second ≤ 16
    right_room {d} a p = omega (arith, halves_room d.len a, p.len)

    pub halves_is : {d q v : D.Disjunct} → Appended d first q → Appended q second v → Appended d this v
    halves_is p q = then_more p q halves_both

-- ---- a disjunct alone

module _ (k : Counts) (b : List ℕ) (c i : ℕ) (s : Sized (tables k b)) (h : c < k.conditions) where
  room_alone : length (get_or (disjuncts (tables k b).conditions c) i []) ≤ 16
  room_alone =
      let inside : c < length (tables k b).conditions = rw (conditions_counted k b) h in
      omega (arith, at_most_longest (disjuncts (tables k b).conditions c) i, (s.allowed c inside).narrow)

  pub alone : (d : D.Disjunct) → d.len ≡ 0 → d.len + length (get_or (disjuncts (tables k b).conditions c) i []) ≤ 16
  alone d e = omega (arith, room_alone)

  pub carried : (d : D.Disjunct) {r : D.Disjunct} → ranges_of d ≡ [] → d.len ≡ 0 → Appended d (get_or (disjuncts (tables k b).conditions c) i []) r
      → Carries r (get_or (disjuncts (tables k b).conditions c) i [])
  carried d z e p = record { len = omega (arith, p.len); room = omega (arith, p.len, room_alone); is = p.is ∙ rw z }

-- ---- for callers: a disjunct read range by range

pub range_at : {d : D.Disjunct} {xs : List ℕ} → Carries d xs → (j : ℕ) → j < d.len → get_or d.ranges j 0 ≡ get_or xs j 0
unfolding ranges_of
range_at {d} p j h = sym (get_or-take d.len d.ranges j 0 h) ∙ ap (λ (l : List ℕ). get_or l j 0) p.is

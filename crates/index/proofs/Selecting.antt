-- Walks along a chain or along the members of a range pass none of the parts that are chosen of it.
use mathlib.Core.Path.{◌≡◌, refl, sym, ◌∙◌}
use mathlib.Core.Bool.{Bool, true, false, ◌&&◌, false≢true}
use mathlib.Core.List.{List}
use Prim.Native.Nat.{ℕ, ◌+◌, ◌<◌, ◌≤◌}
use native.Mathlib.Omega.{arith}
use native.Mathlib.Decide.{dec_lt}
use lib.Dec.{eqb}
use lib.ListN.{get_or}
use borrow.Author.Tests.{ne_eqb}
use Rattle.rules.specs.Catalogue.{name_of, range_name, part_at}
use Rattle.rules.specs.Candidates.{member}
use Rattle.words.specs.Words.{words}
use Rattle.tables.specs.declared.Counts.{Counts}
use Rattle.tables.specs.Tables.{tables}
use Rattle.tables.proofs.Laws.{part_in}
use Rattle.marks.specs.Marks.{is_marked, NextMember}
use Rattle.cache.specs.Areas.{catalogue}
use Rattle.cache.specs.Lists.{asked, chosen}
use Rattle.cache.specs.declared.Choice.{Choice}
use Rattle.cache.specs.declared.Choice.TheVariants.{Matching, NonMatching, Favoured, Others}
use Rattle.cache.proofs.Laws.{part_held, part_name_held, range_name_held, members_held}
use Rattle.index.specs.Chains.{First, parts_by_name, key_of, is_favoured, favoured_of, is_non_matching, FirstNonMatching, Skips}

-- nothing lies between
pub skips_none : (n : ℕ) (selected : ℕ → Bool) (from : ℕ) → from ≤ n → Skips n selected from from
skips_none n selected from h = record { onward = omega arith; inside = h; none = λ i a b. (let none : ⊥ = omega arith in absurd none) }

skips_both : {n : ℕ} {selected : ℕ → Bool} {from r x : ℕ} → Skips n selected from r → Skips n selected r x → Skips n selected from x
skips_both {n} {selected} {from} {r} {x} a b =
    record { onward = (let y = a.onward in let z = b.onward in omega arith); inside = b.inside; none = both }
  where
    both : (i : ℕ) → from ≤ i → i < x → selected i ≡ false
    both i c d = elim (dec_lt i r) [ yes l ↦ a.none i c l | no l ↦ b.none i (omega arith) d ]

and_none : (b : Bool) → (b && false) ≡ false
and_none true = refl
and_none false = refl

module _ (k : Counts) (m u t : List ℕ) where
  pub name_is_key : (i : ℕ) → i < k.parts → name_of (catalogue k m u t) i ≡ key_of parts_by_name (words t) i
  unfolding key_of
  name_is_key i h = part_name_held k m u t i ∙ rw (part_in k t i h)

  -- a name's chain passes none of its parts
  pub skips_name : {name from x : ℕ} (also : ℕ → Bool) → First k.parts (key_of parts_by_name (words t)) name from x
      → Skips k.parts (λ i. eqb (name_of (catalogue k m u t) i) name && also i) from x
  skips_name {name} {from} {x} also f =
      record { onward = f.onward; inside = f.inside; none = passed }
    where
      passed : (i : ℕ) → from ≤ i → i < x → (eqb (name_of (catalogue k m u t) i) name && also i) ≡ false
      passed i a b =
          let l : i < k.parts = (let z = f.inside in omega arith) in
          rw (ne_eqb (name_of (catalogue k m u t) i) name (λ e. f.none i a b (sym (name_is_key i l) ∙ e)))

  module _ (r : ℕ) where
    not_member : (i : ℕ) → r < k.ranges → is_marked m r i ≡ false → member (catalogue k m u t) r i ≡ false
    not_member i h e = rw (members_held k m u t r h) e

    gone : (w : Choice) (i : ℕ) → ((b : Bool) → asked w false b ≡ false) → member (catalogue k m u t) r i ≡ false → chosen (catalogue k m u t) r w i ≡ false
    unfolding chosen
    gone w i a e = rw (e, a (part_at (catalogue k m u t) i).favoured) (and_none (eqb (name_of (catalogue k m u t) i) (range_name (catalogue k m u t) r)))

    by_member : {from x : ℕ} (w : Choice) → r < k.ranges → ((b : Bool) → asked w false b ≡ false) → NextMember m r from k.parts x
        → Skips k.parts (chosen (catalogue k m u t) r w) from x
    by_member w h a n = record { onward = n.onward; inside = n.inside; none = λ i b c. gone w i a (not_member i h (n.none i b c)) }

    -- the first member of the range is the first that matches
    pub skips_matching : {from x : ℕ} (w : Choice) → r < k.ranges → w ≡ Matching → NextMember m r from k.parts x → Skips k.parts (chosen (catalogue k m u t) r w) from x
    skips_matching w h e n = by_member w h (λ b. rw e (unfold asked in refl)) n

    pub skips_others : {from x : ℕ} (w : Choice) → r < k.ranges → w ≡ Others → NextMember m r from k.parts x → Skips k.parts (chosen (catalogue k m u t) r w) from x
    skips_others w h e n = by_member w h (λ b. rw e (unfold asked in refl)) n

    -- so is the first member from the next part of the name on
    pub skips_members : (i : ℕ) {name next x : ℕ} → r < k.ranges → name ≡ get_or (tables k t).ranges r 0 → First k.parts (key_of parts_by_name (words t)) name (i + 1) next
        → NextMember m r next k.parts x → Skips k.parts (chosen (catalogue k m u t) r Matching) (i + 1) x
    unfolding chosen
    skips_members i {name} {next} {x} h q f n =
        let is : name ≡ range_name (catalogue k m u t) r = q ∙ sym (range_name_held k m u t r) in
        let before : Skips k.parts (chosen (catalogue k m u t) r Matching) (i + 1) next = rw is at (skips_name (λ p. asked Matching (member (catalogue k m u t) r p) (part_at (catalogue k m u t) p).favoured) f) in
        let behind : Skips k.parts (chosen (catalogue k m u t) r Matching) next x = by_member Matching h (λ b. unfold asked in refl) n in
        skips_both before behind

    -- what does not match is not among the others
    less : (i : ℕ) → chosen (catalogue k m u t) r Matching i ≡ false → chosen (catalogue k m u t) r Others i ≡ false
    unfolding chosen asked
    less i e = fewer (eqb (name_of (catalogue k m u t) i) (range_name (catalogue k m u t) r)) (member (catalogue k m u t) r i) _ e
      where
        fewer : (a b c : Bool) → (a && b) ≡ false → (a && (b && c)) ≡ false
        fewer true true c f = absurd (false≢true (sym f))
        fewer true false c f = refl
        fewer false b c f = refl

    pub skips_of_others : {from x : ℕ} (w : Choice) → w ≡ Others → Skips k.parts (chosen (catalogue k m u t) r Matching) from x → Skips k.parts (chosen (catalogue k m u t) r w) from x
    skips_of_others w e f = rw e (record { onward = f.onward; inside = f.inside; none = λ i a b. less i (f.none i a b) })

    -- a favoured part of the range is one of its name
    pub skips_favoured : {name from x : ℕ} (w : Choice) → w ≡ Favoured → name ≡ get_or (tables k t).ranges r 0 → Skips k.parts (favoured_of k t name) from x
        → Skips k.parts (chosen (catalogue k m u t) r w) from x
    unfolding chosen asked favoured_of is_favoured
    skips_favoured {name} {from} {x} w e q f =
        record { onward = f.onward; inside = f.inside; none = λ i a b. rw e (passed i (inner f.inside b) (f.none i a b)) }
      where
        inner : {i : ℕ} → x ≤ k.parts → i < x → i < k.parts
        inner a b = omega arith

        fewer : (a b c : Bool) → (a && c) ≡ false → (a && (b && c)) ≡ false
        fewer true true c g = g
        fewer true false c g = refl
        fewer false b c g = refl

        passed : (i : ℕ) → i < k.parts → favoured_of k t name i ≡ false → chosen (catalogue k m u t) r Favoured i ≡ false
        passed i l g =
            let is : range_name (catalogue k m u t) r ≡ name = range_name_held k m u t r ∙ sym q in
            let has = member (catalogue k m u t) r i in
            fewer (eqb (name_of (catalogue k m u t) i) (range_name (catalogue k m u t) r)) has (part_at (catalogue k m u t) i).favoured
            (rw (name_is_key i l, is, part_held k m u t i) g)

    -- outside the range are parts of its name alone
    pub skips_outside : {name from x : ℕ} → name ≡ get_or (tables k t).ranges r 0 → First k.parts (key_of parts_by_name (words t)) name from x
        → Skips k.parts (chosen (catalogue k m u t) r NonMatching) from x
    unfolding chosen
    skips_outside {name} q f =
        let is : name ≡ range_name (catalogue k m u t) r = q ∙ sym (range_name_held k m u t r) in
        rw is at (skips_name (λ i. asked NonMatching (member (catalogue k m u t) r i) (part_at (catalogue k m u t) i).favoured) f)

    pub non_matching_is_chosen : (i : ℕ) → r < k.ranges → chosen (catalogue k m u t) r NonMatching i ≡ is_non_matching (tables k t) m r i
    unfolding chosen asked is_non_matching
    non_matching_is_chosen i h = rw (part_name_held k m u t i, range_name_held k m u t r, members_held k m u t r h)

    -- the first non-matching part, as the index keeps it
    pub skips_first : {x : ℕ} (w : Choice) → w ≡ NonMatching → r < k.ranges → FirstNonMatching k.parts (tables k t) m r x
        → Skips k.parts (chosen (catalogue k m u t) r w) 0 x
    skips_first w e h f =
        record { onward = f.skips.onward; inside = f.skips.inside; none = λ i a b. rw e (non_matching_is_chosen i h ∙ f.skips.none i a b) }

-- ---- from a part on

module _ (k : Counts) {m : List ℕ} {r : ℕ} (i : ℕ) where
  pub member_past : k.parts ≤ i → i ≤ k.parts → NextMember m r i k.parts i
  member_past h g = record { onward = omega arith; inside = g; none = λ j a b. (let none : ⊥ = omega arith in absurd none) }

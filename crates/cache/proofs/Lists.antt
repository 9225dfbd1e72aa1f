-- The functions of the cache against the definitions: a law for each way out of each. And the definitions' lists as choices.
use mathlib.Core.Path.{◌≡◌, sym, ◌∙◌}
use mathlib.Core.Bool.{Bool, true, false, not, ◌&&◌}
use mathlib.Core.List.{List, ◌++◌}
use Prim.Native.Nat.{ℕ, ◌<◌, ◌≤◌}
use lib.Dec.{eqb}
use lib.ListN.{length, get_or}
use borrow.Author.Tests.{eq-eqb, ne_eqb}
use Rattle.rules.specs.Lists.{filter, up_to}
use Rattle.rules.specs.Catalogue.{Catalogue, no_part, part_at, name_of, range_name}
use Rattle.rules.specs.Candidates.{member, parts_of, matching, non_matching, favoured_first, sorted}
use Rattle.rules.proofs.MemberLaws.{filter_both}
use Rattle.tables.specs.declared.Counts.{Counts}
use Rattle.tables.specs.Tables.{tables}
use Rattle.marks.specs.Marks.{is_marked}
use Rattle.cache.specs.declared.Choice.{Choice}
use Rattle.cache.specs.declared.Choice.TheVariants.{Matching, NonMatching, Favoured, Others}
use Rattle.cache.specs.Areas.{catalogue}
use Rattle.cache.specs.Lists.{asked, chosen, choice}
use Rattle.cache.proofs.Laws.{part_held, part_name_held, range_name_held, members_held, members_missing}

-- ---- one part

module _ (k : Counts) (m u t : List ℕ) (r p : ℕ) where
  pub member_in : (b : Bool) → r < k.ranges → b ≡ is_marked m r p → b ≡ member (catalogue k m u t) r p
  member_in b h e = rw (members_held k m u t r h) e

  pub member_past : k.ranges ≤ r → false ≡ member (catalogue k m u t) r p
  member_past h = rw (members_missing k m u t r h)

  module _ (w : Choice) (n x : ℕ) (e : n ≡ (get_or (tables k t).parts p no_part).name) (d : x ≡ get_or (tables k t).ranges r 0) where
    pub chosen_other : (n ≡ x → ⊥) → false ≡ chosen (catalogue k m u t) r w p
    unfolding chosen
    chosen_other h = rw (part_name_held k m u t p, range_name_held k m u t r, ← e, ← d, ne_eqb n x h)

    pub chosen_here : (b f a : Bool) → n ≡ x → b ≡ member (catalogue k m u t) r p → f ≡ (get_or (tables k t).parts p no_part).favoured
        → a ≡ asked w b f → a ≡ chosen (catalogue k m u t) r w p
    unfolding chosen
    chosen_here b f a h i j l = rw (part_name_held k m u t p, part_held k m u t p, range_name_held k m u t r, ← e, ← d, eq-eqb n x h, ← i, ← j) l

module _ (w : Choice) (m f : Bool) where
  pub asked_matching : w ≡ Matching → m ≡ asked w m f
  unfolding asked
  asked_matching e = rw e

  pub asked_rest : w ≡ NonMatching → not m ≡ asked w m f
  unfolding asked
  asked_rest e = rw e

  pub asked_favoured : w ≡ Favoured → m ≡ true → f ≡ asked w m f
  unfolding asked
  asked_favoured e h = rw (e, h)

  pub asked_no_favoured : w ≡ Favoured → m ≡ false → m ≡ asked w m f
  unfolding asked
  asked_no_favoured e h = rw (e, h)

  pub asked_other : w ≡ Others → m ≡ true → not f ≡ asked w m f
  unfolding asked
  asked_other e h = rw (e, h)

  pub asked_no_other : w ≡ Others → m ≡ false → m ≡ asked w m f
  unfolding asked
  asked_no_other e h = rw (e, h)

-- ---- the definitions' lists are choices

module _ (c : Catalogue) (r : ℕ) where
  abbrev favoured : ℕ → Bool
  favoured p = (part_at c p).favoured

  -- a test on the parts of the range's name, as one on all parts
  pub of_name_law : (f : ℕ → Bool) → filter f (parts_of c (range_name c r)) ≡ filter (λ (p : ℕ). eqb (name_of c p) (range_name c r) && f p) (up_to 0 (length c.parts))
  unfolding parts_of
  of_name_law f = filter_both f (λ (p : ℕ). eqb (name_of c p) (range_name c r)) (up_to 0 (length c.parts))

  pub matching_is : choice c r Matching ≡ matching c r
  unfolding choice chosen asked matching
  matching_is = sym (of_name_law (member c r))

  pub non_matching_is : choice c r NonMatching ≡ non_matching c r
  unfolding choice chosen asked non_matching
  non_matching_is = sym (of_name_law (λ (p : ℕ). not (member c r p)))

  favoured_is : choice c r Favoured ≡ filter favoured (matching c r)
  unfolding choice chosen asked matching
  favoured_is = sym (filter_both favoured (member c r) (parts_of c (range_name c r)) ∙ of_name_law (λ (p : ℕ). member c r p && favoured p))

  others_is : choice c r Others ≡ filter (λ (p : ℕ). not (favoured p)) (matching c r)
  unfolding choice chosen asked matching
  others_is = sym (filter_both (λ (p : ℕ). not (favoured p)) (member c r) (parts_of c (range_name c r)) ∙ of_name_law (λ (p : ℕ). member c r p && not (favoured p)))

  pub sorted_is : choice c r Favoured ++ choice c r Others ≡ sorted c r
  unfolding sorted favoured_first
  sorted_is = rw (favoured_is, others_is)

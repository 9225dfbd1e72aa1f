-- Is a part one of these? A law for each way out. And for callers: the definitions' lists as such parts.
use mathlib.Core.Path.{◌≡◌, sym}
use mathlib.Core.Bool.{Bool, not, ◌&&◌}
use mathlib.Core.List.{List, ◌∷◌}
use Prim.Native.Nat.{ℕ}
use lib.Dec.{eqb}
use lib.ListN.{length, get_or}
use borrow.Author.Tests.{eq-eqb}
use Rattle.rules.specs.Catalogue.{Catalogue, no_part, part_at, name_of, range_name, excluded_part}
use Rattle.rules.specs.Lists.{filter, up_to}
use Rattle.rules.specs.Candidates.{member, parts_of, non_matching, locked_part, others, locked_out, excluded_parts}
use Rattle.rules.proofs.MemberLaws.{filter_both}
use Rattle.tables.specs.declared.Counts.{Counts}
use Rattle.tables.specs.Tables.{tables}
use Rattle.cache.specs.declared.Choice.{Choice}
use Rattle.cache.specs.declared.Choice.TheVariants.{NonMatching}
use Rattle.cache.specs.Areas.{catalogue}
use Rattle.cache.specs.Lists.{asked, chosen}
use Rattle.cache.proofs.Laws.{part_held, part_name_held}
use Rattle.words.specs.Words.{words}
use Rattle.index.specs.Chains.{First, parts_by_name, key_of, Skips}
use Rattle.index.proofs.Selecting.{skips_name}
use Rattle.parts.specs.declared.Parts.{Parts}
use Rattle.parts.specs.declared.Parts.TheVariants.{Chosen, Locked, Others, Excluded}
use Rattle.parts.specs.Parts.{selected_of, parts_for}

pub named : (n x y : ℕ) (a b : Bool) → x ≡ y → x ≡ n → a ≡ b → a ≡ (eqb y n && b)
named n x y a b e h f = rw (← e, eq-eqb x n h) f

module _ (k : Counts) (m u t : List ℕ) {which : Parts} (p : ℕ) (b : Bool) where
  pub selected_chosen : {r : ℕ} {w : Choice} → which ≡ Chosen r w → b ≡ chosen (catalogue k m u t) r w p → b ≡ selected_of (catalogue k m u t) which p
  unfolding selected_of
  selected_chosen e d = rw e d

  pub selected_locked : {n : ℕ} → which ≡ Locked n → b ≡ (eqb (get_or (tables k t).parts p no_part).name n && (get_or (tables k t).parts p no_part).locked)
      → b ≡ selected_of (catalogue k m u t) which p
  unfolding selected_of part_at
  selected_locked e d = rw e (rw (← part_held k m u t p) at d)

  pub selected_others : {n locked : ℕ} → which ≡ Others n locked → b ≡ (eqb (get_or (tables k t).parts p no_part).name n && not (eqb p locked))
      → b ≡ selected_of (catalogue k m u t) which p
  unfolding selected_of
  selected_others e d = rw (e, part_name_held k m u t p) d

  pub selected_excluded : {n : ℕ} → which ≡ Excluded n → b ≡ (eqb (get_or (tables k t).parts p no_part).name n && (get_or (tables k t).parts p no_part).excluded)
      → b ≡ selected_of (catalogue k m u t) which p
  unfolding selected_of excluded_part part_at
  selected_excluded e d = rw e (rw (← part_held k m u t p) at d)

-- ---- the next one of these

module _ (k : Counts) (m u t : List ℕ) {which : Parts} {from x : ℕ} where
  pub skips_chosen : {r : ℕ} {w : Choice} → which ≡ Chosen r w → Skips k.parts (chosen (catalogue k m u t) r w) from x → Skips k.parts (selected_of (catalogue k m u t) which) from x
  unfolding selected_of
  skips_chosen e s = rw e s

  pub skips_locked : {n : ℕ} → which ≡ Locked n → First k.parts (key_of parts_by_name (words t)) n from x → Skips k.parts (selected_of (catalogue k m u t) which) from x
  unfolding selected_of
  skips_locked e f = rw e (skips_name k m u t (λ p. (part_at (catalogue k m u t) p).locked) f)

  pub skips_others : {n locked : ℕ} → which ≡ Others n locked → First k.parts (key_of parts_by_name (words t)) n from x → Skips k.parts (selected_of (catalogue k m u t) which) from x
  unfolding selected_of
  skips_others {locked = locked} e f = rw e (skips_name k m u t (λ p. not (eqb p locked)) f)

  pub skips_excluded : {n : ℕ} → which ≡ Excluded n → First k.parts (key_of parts_by_name (words t)) n from x → Skips k.parts (selected_of (catalogue k m u t) which) from x
  unfolding selected_of
  skips_excluded e f = rw e (skips_name k m u t (excluded_part (catalogue k m u t)) f)

-- ---- the definitions' lists

module _ (c : Catalogue) where
  -- a test on the parts of a name, as one on all parts
  of_name_law : (n : ℕ) (f : ℕ → Bool) → filter (λ (p : ℕ). eqb (name_of c p) n && f p) (up_to 0 (length c.parts)) ≡ filter f (parts_of c n)
  unfolding parts_of
  of_name_law n f = sym (filter_both f (λ (p : ℕ). eqb (name_of c p) n) (up_to 0 (length c.parts)))

  pub locked_parts : (n : ℕ) → parts_for c (Locked n) ≡ locked_part c n
  unfolding parts_for selected_of locked_part
  locked_parts n = of_name_law n (λ (p : ℕ). (part_at c p).locked)

  pub other_parts : (n l : ℕ) (ls : List ℕ) → locked_part c n ≡ l ∷ ls → parts_for c (Others n l) ≡ locked_out c n
  unfolding parts_for selected_of locked_out others
  other_parts n l ls e = rw e (of_name_law n (λ (p : ℕ). not (eqb p l)))

  pub excluded_parts_law : (n : ℕ) → parts_for c (Excluded n) ≡ excluded_parts c n
  unfolding parts_for selected_of excluded_parts
  excluded_parts_law n = of_name_law n (excluded_part c)

  pub non_matching_parts : (r : ℕ) → parts_for c (Chosen r NonMatching) ≡ non_matching c r
  unfolding parts_for selected_of chosen asked non_matching
  non_matching_parts r = of_name_law (range_name c r) (λ (p : ℕ). not (member c r p))

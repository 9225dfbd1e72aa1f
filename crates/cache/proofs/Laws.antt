-- For callers: the catalogue that the areas hold, read through the accessors of `tables`, `marks` and `unions`.
use mathlib.Core.Path.{◌≡◌, refl, ◌∙◌}
use mathlib.Core.Bool.{false}
use mathlib.Core.List.{List, []}
use Prim.Native.Nat.{ℕ, ◌<◌, ◌≤◌}
use native.Mathlib.Decide.{dec_lt}
use native.Mathlib.Omega.{arith}
use lib.ListN.{length, get_or}
use Rattle.rules.specs.Catalogue.{Range, no_part, part_at, no_range, range_at, name_of, range_name, several_allowed}
use Rattle.rules.specs.Catalogue.{no_requirement, requirement_at, no_constraint, constraint_at, union}
use Rattle.rules.specs.Candidates.{goal_ranges}
use Rattle.tables.specs.declared.Counts.{Counts}
use Rattle.tables.specs.Tables.{tables}
use Rattle.tables.proofs.Listed.{listed_at, listed_past, listed_length}
use Rattle.tables.proofs.Laws.{names_counted, parts_counted, ranges_counted, unions_counted, conditions_counted, requirements_counted, constraints_counted, range_past}
use Rattle.marks.specs.Marks.{is_marked}
use Rattle.unions.specs.Unions.{rows, ranges_of}
use Rattle.cache.specs.Areas.{assembled, catalogue}

module _ (k : Counts) (m u t : List ℕ) where
  -- ---- how many of each

  pub names_held : length (catalogue k m u t).names ≡ k.names
  unfolding catalogue assembled
  names_held = names_counted k t

  pub parts_held : length (catalogue k m u t).parts ≡ k.parts
  unfolding catalogue assembled
  parts_held = parts_counted k t

  pub ranges_held : length (catalogue k m u t).ranges ≡ k.ranges
  unfolding catalogue assembled
  ranges_held = listed_length (length (tables k t).ranges) _ ∙ ranges_counted k t

  pub unions_held : length (catalogue k m u t).unions ≡ k.unions
  unfolding catalogue assembled
  unions_held = listed_length (tables k t).unions _ ∙ unions_counted k t

  pub conditions_held : length (catalogue k m u t).conditions ≡ k.conditions
  unfolding catalogue assembled
  conditions_held = conditions_counted k t

  pub requirements_held : length (catalogue k m u t).requirements ≡ k.requirements
  unfolding catalogue assembled
  requirements_held = requirements_counted k t

  pub constraints_held : length (catalogue k m u t).constraints ≡ k.constraints
  unfolding catalogue assembled
  constraints_held = constraints_counted k t

  -- ---- what stands at a number: as the tables have it

  pub several_held : (n : ℕ) → several_allowed (catalogue k m u t) n ≡ get_or (tables k t).names n false
  unfolding catalogue assembled
  several_held n = refl

  pub part_held : (p : ℕ) → part_at (catalogue k m u t) p ≡ get_or (tables k t).parts p no_part
  unfolding catalogue assembled part_at
  part_held p = refl

  pub part_name_held : (p : ℕ) → name_of (catalogue k m u t) p ≡ (get_or (tables k t).parts p no_part).name
  part_name_held p = rw (part_held p, name_of)

  pub conditions_same : (catalogue k m u t).conditions ≡ (tables k t).conditions
  unfolding catalogue assembled
  conditions_same = refl

  pub requirement_held : (q : ℕ) → requirement_at (catalogue k m u t) q ≡ get_or (tables k t).requirements q no_requirement
  unfolding catalogue assembled requirement_at
  requirement_held q = refl

  pub constraint_held : (c : ℕ) → constraint_at (catalogue k m u t) c ≡ get_or (tables k t).constraints c no_constraint
  unfolding catalogue assembled constraint_at
  constraint_held c = refl

  -- ---- ranges: their names and their members

  abbrev given : ℕ → Range
  given r = record { name = get_or (tables k t).ranges r 0; members = is_marked m r }

  pub range_held : (r : ℕ) → r < k.ranges → range_at (catalogue k m u t) r ≡ given r
  unfolding catalogue assembled range_at
  range_held r h = listed_at (length (tables k t).ranges) given r no_range (rw ranges_counted h)

  pub range_missing : (r : ℕ) → k.ranges ≤ r → range_at (catalogue k m u t) r ≡ no_range
  unfolding catalogue assembled range_at
  range_missing r h = listed_past (length (tables k t).ranges) given r no_range (rw ranges_counted h)

  pub range_name_held : (r : ℕ) → range_name (catalogue k m u t) r ≡ get_or (tables k t).ranges r 0
  range_name_held r = elim (dec_lt r k.ranges) [
    | yes h ↦ rw (range_held r h, range_name)
    | no h ↦ let g : k.ranges ≤ r = omega arith in rw (range_missing r g, range_name, range_past k t r g)
  ]

  pub members_held : (r : ℕ) → r < k.ranges → (range_at (catalogue k m u t) r).members ≡ is_marked m r
  members_held r h = rw (range_held r h)

  pub members_missing : (r : ℕ) → k.ranges ≤ r → (range_at (catalogue k m u t) r).members ≡ (λ (p : ℕ). false)
  members_missing r h = rw (range_missing r h)

  -- ---- unions: their ranges

  pub union_held : (x : ℕ) → x < k.unions → get_or (catalogue k m u t).unions x [] ≡ ranges_of x (rows k.members u)
  unfolding catalogue assembled
  union_held x h = listed_at (tables k t).unions (λ (x : ℕ). ranges_of x (rows k.members u)) x [] (rw unions_counted h)

  pub union_missing : (x : ℕ) → k.unions ≤ x → get_or (catalogue k m u t).unions x [] ≡ []
  unfolding catalogue assembled
  union_missing x h = listed_past (tables k t).unions (λ (x : ℕ). ranges_of x (rows k.members u)) x [] (rw unions_counted h)

  pub union_ranges_held : (x : ℕ) → x < k.unions → goal_ranges (catalogue k m u t) (union x) ≡ ranges_of x (rows k.members u)
  unfolding goal_ranges
  union_ranges_held x h = union_held x h

-- A store behind the rows in use changes no table, and a count raised by one gives its table the row that stands there.
use mathlib.Core.Path.{◌≡◌, sym}
use mathlib.Core.List.{List, [], ◌∷◌}
use Prim.Native.Nat.{ℕ, ◌+◌, ◌*◌, ◌<◌, ◌≤◌}
use native.Mathlib.Omega.{arith}
use native.Mathlib.Numerals.{add-one}
use lib.ListN.{length, get_or}
use Rattle.rules.specs.AtMostOne.{bit}
use Rattle.rules.specs.Items.{part_of}
use Rattle.tables.specs.declared.Counts.{Counts}
use Rattle.tables.specs.Tables.{listed, field, name_row, part_row, range_row, condition_row, size_row, requirement_row, constraint_row}
use Rattle.tables.specs.Tables.{condition_from, size_from, requirement_from, constraint_from, tables_in}
use Rattle.tables.specs.Tables.{with_name, with_part, with_range, with_union, with_condition, with_requirement, with_constraint}
use Rattle.tables.proofs.Listed.{listed_more, listed_same}
use Rattle.tables.proofs.Stores.{Stored, stored_outside, stored_inside}

-- ---- one table: where it starts, how wide its rows are, and what a row stands for

-- a row's meaning is a matter of its first `used` numbers
record Table {A : Type 0} (start width used : ℕ) (row : List ℕ → ℕ → A) : Type 0 where
  same : (w w' : List ℕ) (i : ℕ) → ((j : ℕ) → j < used → field w' start width i j ≡ field w start width i j) → row w' i ≡ row w i

names : Table 0 6 1 name_row
unfolding name_row
names = record { same = λ w w' i e. rw (e 0 (omega arith)) }

parts : Table 384 5 4 part_row
unfolding part_row
parts = record { same = λ w w' i e. rw (e 0 (omega arith), e 1 (omega arith), e 2 (omega arith), e 3 (omega arith)) }

ranges : Table 9604 4 1 range_row
unfolding range_row
ranges = record { same = λ w w' i e. e 0 (omega arith) }

conditions : Table 12036 6 5 condition_row
unfolding condition_row
conditions = record { same = λ w w' i e. rw (e 0 (omega arith), e 1 (omega arith), e 2 (omega arith)) }

sizes : Table 12036 6 5 size_row
unfolding size_row
sizes = record { same = λ w w' i e. rw (e 3 (omega arith), e 4 (omega arith)) }

requirements : Table 13572 6 4 requirement_row
unfolding requirement_row
requirements = record { same = λ w w' i e. rw (e 0 (omega arith), e 1 (omega arith), e 2 (omega arith), e 3 (omega arith)) }

constraints : Table 19716 3 2 constraint_row
unfolding constraint_row
constraints = record { same = λ w w' i e. rw (e 0 (omega arith), e 1 (omega arith)) }

-- none of the numbers from `at` to `to` is read in the table's n rows
abbrev Apart : (start width used n at to : ℕ) → Type 0
Apart start width used n at to = (i j : ℕ) → i < n → j < used → at ≤ start + width * i + j → start + width * i + j < to → ⊥

apart_kept : {A : Type 0} {start width used : ℕ} {row : List ℕ → ℕ → A} {w : List ℕ} {at : ℕ} {xs w' : List ℕ}
    → Table start width used row → Stored w at xs w' → (n : ℕ) → Apart start width used n at (at + length xs) → listed n (row w') ≡ listed n (row w)
unfolding field
apart_kept {start = start} {width = width} {row = row} {w = w} {w' = w'} t s n apart =
    listed_same n (row w') (row w) (λ i h. t.same w w' i (λ j l. stored_outside s (start + width * i + j) (apart i j h l)))

-- ---- all of them

-- none of the numbers from `at` to `to` is read in a row in use
pub record Free (k : Counts) (at to : ℕ) : Type 0 where
  pub names : Apart 0 6 1 k.names at to
  pub parts : Apart 384 5 4 k.parts at to
  pub ranges : Apart 9604 4 1 k.ranges at to
  pub conditions : Apart 12036 6 5 k.conditions at to
  pub requirements : Apart 13572 6 4 k.requirements at to
  pub constraints : Apart 19716 3 2 k.constraints at to

pub free_kept : {w : List ℕ} {at : ℕ} {xs w' : List ℕ} (k : Counts) → Stored w at xs w' → Free k at (at + length xs) → tables_in k w' ≡ tables_in k w
unfolding tables_in
free_kept k s f =
    rw (
      apart_kept names s k.names f.names,
      apart_kept parts s k.parts f.parts,
      apart_kept ranges s k.ranges f.ranges,
      apart_kept conditions s k.conditions f.conditions,
      apart_kept sizes s k.conditions f.conditions,
      apart_kept requirements s k.requirements f.requirements,
      apart_kept constraints s k.constraints f.constraints,
    )

-- ---- one row more

abbrev pub counts : (names parts ranges unions members conditions requirements constraints : ℕ) → Counts
counts n p r u m c q x =
    record { names = n; parts = p; ranges = r; unions = u; members = m; conditions = c; requirements = q; constraints = x }

module _ (k : Counts) where
  abbrev pub more_names : Counts
  more_names = counts (k.names + 1) k.parts k.ranges k.unions k.members k.conditions k.requirements k.constraints

  abbrev pub more_parts : Counts
  more_parts = counts k.names (k.parts + 1) k.ranges k.unions k.members k.conditions k.requirements k.constraints

  abbrev pub more_ranges : Counts
  more_ranges = counts k.names k.parts (k.ranges + 1) k.unions k.members k.conditions k.requirements k.constraints

  abbrev pub more_unions : Counts
  more_unions = counts k.names k.parts k.ranges (k.unions + 1) k.members k.conditions k.requirements k.constraints

  abbrev pub more_conditions : Counts
  more_conditions = counts k.names k.parts k.ranges k.unions k.members (k.conditions + 1) k.requirements k.constraints

  abbrev pub more_requirements : Counts
  more_requirements = counts k.names k.parts k.ranges k.unions k.members k.conditions (k.requirements + 1) k.constraints

  abbrev pub more_constraints : Counts
  more_constraints = counts k.names k.parts k.ranges k.unions k.members k.conditions k.requirements (k.constraints + 1)

  module _ (w : List ℕ) where
    pub one_name : tables_in more_names w ≡ with_name (tables_in k w) (name_row w k.names)
    unfolding tables_in with_name
    one_name = rw listed_more

    pub one_part : tables_in more_parts w ≡ with_part (tables_in k w) (part_row w k.parts)
    unfolding tables_in with_part
    one_part = rw listed_more

    pub one_range : tables_in more_ranges w ≡ with_range (tables_in k w) (range_row w k.ranges)
    unfolding tables_in with_range
    one_range = rw listed_more

    pub one_union : tables_in more_unions w ≡ with_union (tables_in k w)
    unfolding tables_in with_union
    one_union = rw add-one

    pub one_condition : tables_in more_conditions w ≡ with_condition (tables_in k w) (condition_row w k.conditions) (size_row w k.conditions)
    unfolding tables_in with_condition
    one_condition = rw (listed_more k.conditions (condition_row w), listed_more k.conditions (size_row w))

    pub one_requirement : tables_in more_requirements w ≡ with_requirement (tables_in k w) (requirement_row w k.requirements)
    unfolding tables_in with_requirement
    one_requirement = rw listed_more

    pub one_constraint : tables_in more_constraints w ≡ with_constraint (tables_in k w) (constraint_row w k.constraints)
    unfolding tables_in with_constraint
    one_constraint = rw listed_more

-- ---- what a row stands for once its numbers are stored

-- row n of a table begins with the numbers xs
pub record Begins (w : List ℕ) (start width n : ℕ) (xs : List ℕ) : Type 0 where
  at : (j : ℕ) → j < length xs → field w start width n j ≡ get_or xs j 0

pub stored_begins : {w : List ℕ} {at : ℕ} {xs w' : List ℕ} (start width n : ℕ)
    → Stored w at xs w' → at ≡ start + width * n → at + length xs ≤ length w → Begins w' start width n xs
unfolding field
stored_begins start width n s e room = record { at = λ j h. rw (sym e) (stored_inside s j h room) }

module _ {w : List ℕ} {n : ℕ} where
  pub name_from : {f : ℕ} → Begins w 0 6 n (f ∷ []) → name_row w n ≡ bit 0 f
  unfolding name_row
  name_from b = rw (b.at 0 (omega arith))

  pub part_from : {m f u e : ℕ} → Begins w 384 5 n (m ∷ f ∷ u ∷ e ∷ []) → part_row w n ≡ part_of m f u e
  unfolding part_row
  part_from b = rw (b.at 0 (omega arith), b.at 1 (omega arith), b.at 2 (omega arith), b.at 3 (omega arith))

  pub range_from : {m : ℕ} → Begins w 9604 4 n (m ∷ []) → range_row w n ≡ m
  unfolding range_row
  range_from b = b.at 0 (omega arith)

  pub condition_from_law : {o l r a b : ℕ} → Begins w 12036 6 n (o ∷ l ∷ r ∷ a ∷ b ∷ []) → condition_row w n ≡ condition_from o l r
  unfolding condition_row
  condition_from_law s = rw (s.at 0 (omega arith), s.at 1 (omega arith), s.at 2 (omega arith))

  pub size_from_law : {o l r a b : ℕ} → Begins w 12036 6 n (o ∷ l ∷ r ∷ a ∷ b ∷ []) → size_row w n ≡ size_from a b
  unfolding size_row
  size_from_law s = rw (s.at 3 (omega arith), s.at 4 (omega arith))

  pub requirement_from_law : {o f m c : ℕ} → Begins w 13572 6 n (o ∷ f ∷ m ∷ c ∷ []) → requirement_row w n ≡ requirement_from o f m c
  unfolding requirement_row
  requirement_from_law b = rw (b.at 0 (omega arith), b.at 1 (omega arith), b.at 2 (omega arith), b.at 3 (omega arith))

  pub constraint_from_law : {o r : ℕ} → Begins w 19716 3 n (o ∷ r ∷ []) → constraint_row w n ≡ constraint_from o r
  unfolding constraint_row
  constraint_from_law b = rw (b.at 0 (omega arith), b.at 1 (omega arith))

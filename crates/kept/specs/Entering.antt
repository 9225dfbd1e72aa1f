-- What a function that enters an item says of the areas that it is lent, whatever the others hold.
use Rattle.std.specs.Prelude.{◌≡◌, List, ℕ, Result, Ok, Err}
use Rattle.rules.specs.Catalogue.{Catalogue}
use Rattle.rules.specs.Records.{Item}
use Rattle.refusal.specs.declared.Refusal.{Refusal}
use Rattle.tables.specs.declared.Counts.{Counts}
use Rattle.tables.specs.declared.Tables.{Tables}
use Rattle.tables.specs.declared.TablesMut.{TablesMut}
use Rattle.tables.specs.Tables.{tables}
use Rattle.tables.specs.Views.{tables_mut_of}
use Rattle.marks.specs.declared.MarksMut.{MarksMut}
use Rattle.marks.specs.Marks.{is_marked}
use Rattle.unions.specs.declared.MembersMut.{MembersMut}
use Rattle.unions.specs.Unions.{rows}
use Rattle.conditions.specs.Sizes.{Sized}
use Rattle.cache.specs.Areas.{assembled}
use Rattle.kept.specs.Kept.{Given}
use Rattle.kept.specs.Entered.{Entered}

-- the catalogue of areas: the tables, of which k counts the rows, the marks, and n members of unions
abbrev pub gathered : Counts → ℕ → (marks unions bytes : List ℕ) → Catalogue
gathered k n m u t = assembled (tables k t) (is_marked m) (rows n u)

abbrev pub catalogue_of : MarksMut → MembersMut → TablesMut → Catalogue
catalogue_of m u t = gathered t.counts u.count m.area.now u.area.now t.area.now

-- ---- item e: the answer, and what is left of the areas that it is entered into; for all n members of unions u, and marks m, that others hold

abbrev pub EnteredTables : TablesMut → Item → Result (Unit {0}) Refusal → TablesMut → Type 0
EnteredTables t e r t' = (n : ℕ) (m u : List ℕ) → Entered (gathered t.counts n m u t.area.now) n e r (gathered t'.counts n m u t'.area.now) n

abbrev pub EnteredMarksAndTables : MarksMut → TablesMut → Item → Result (Unit {0}) Refusal → MarksMut → TablesMut → Type 0
EnteredMarksAndTables m t e r m' t' = (n : ℕ) (u : List ℕ) → Entered (gathered t.counts n m.area.now u t.area.now) n e r (gathered t'.counts n m'.area.now u t'.area.now) n

-- the tables t are only read

abbrev pub EnteredMarks : Tables → MarksMut → Item → Result (Unit {0}) Refusal → MarksMut → Type 0
EnteredMarks t m e r m' = (n : ℕ) (u : List ℕ) → Entered (gathered t.counts n m.area.now u t.area.now) n e r (gathered t.counts n m'.area.now u t.area.now) n

abbrev pub EnteredMembers : Tables → MembersMut → Item → Result (Unit {0}) Refusal → MembersMut → Type 0
EnteredMembers t u e r u' = (m : List ℕ) → Entered (gathered t.counts u.count m u.area.now t.area.now) u.count e r (gathered t.counts u'.count m u'.area.now t.area.now) u'.count

-- a union more is a count more: where one that is not given yet has no rows
abbrev pub EnteredCounts : Tables → Item → Result Counts Refusal → Type 0
EnteredCounts t e (Ok k) = (n : ℕ) (m u : List ℕ) → Given t.counts.unions (rows n u) → Entered (gathered t.counts n m u t.area.now) n e (Ok tt) (gathered k n m u t.area.now) n
EnteredCounts t e (Err f) = (n : ℕ) (m u : List ℕ) → Entered (gathered t.counts n m u t.area.now) n e (Err f) (gathered t.counts n m u t.area.now) n

-- ---- what holds again of the tables after an item that is no union

pub record StillKept (t t' : TablesMut) : Type 0 where
  pub sized : Sized (tables_mut_of t) → Sized (tables_mut_of t')
  pub unions : t'.counts.unions ≡ t.counts.unions
  pub members : t'.counts.members ≡ t.counts.members

-- What entering an item keeps, whichever item it is.
use mathlib.Core.Path.{◌≡◌, refl, sym, ◌∙◌}
use mathlib.Core.List.{List}
use Prim.Native.Nat.{ℕ}
use lib.ListN.{get_or}
use native.Mathlib.Nat.{add-zero}
use Rattle.std.specs.Prelude.{Ok, Err}
use Rattle.rules.specs.Catalogue.{Catalogue, no_part, part_at}
use Rattle.rules.specs.Refusals as refusals
use Rattle.rules.specs.Records.{Item}
use Rattle.rules.specs.Items.{add_item}
use Rattle.refusal.specs.declared.Refusal.{Refusal}
use Rattle.refusal.specs.Refusing.{refusal_of}
use Rattle.tables.specs.declared.Counts.{Counts}
use Rattle.tables.specs.declared.TablesMut.{TablesMut}
use Rattle.tables.specs.Tables.{Tables, tables, tables_in, Added}
use Rattle.tables.specs.Views.{tables_mut_of, AddedTo}
use Rattle.tables.proofs.Laws.{unions_counted}
use Rattle.unions.specs.Unions.{Row}
use Rattle.conditions.specs.Sizes.{Sized}
use Rattle.conditions.proofs.Kept.{sized_same}
use Rattle.cache.specs.Areas.{assembled, catalogue}
use Rattle.kept.specs.declared.Draft.{Draft}
use Rattle.kept.specs.declared.Vacancy.{Vacancy}
use Rattle.kept.specs.Kept.{Given, Kept}
use Rattle.kept.specs.Vacancies.{Vacant}
use Rattle.kept.specs.Entered.{rows_of, rows_taken, answered, Entered}
use Rattle.kept.specs.Drafts.{catalogue_in, counts_in}
use Rattle.kept.specs.Entering.{gathered, StillKept}
use Rattle.kept.proofs.Fields.{unions_are}

-- one thing more in the tables
module _ {k r : Counts} {t' : List ℕ} {x : Tables} (a : Added k r t' x) (t : List ℕ) where
  pub given_still : {rs : List Row} → x.unions ≡ (tables k t).unions → Given k.unions rs → Given r.unions rs
  given_still e g = let f : r.unions ≡ k.unions = unions_are a ∙ e ∙ unions_counted k t in rw f g

  pub sized_still : x.conditions ≡ (tables k t).conditions → x.sizes ≡ (tables k t).sizes → Sized (tables k t) → Sized (tables r t')
  sized_still e f s = rw a.is (sized_same (tables k t) x e f s)

  pub vacant_still : {vs : List Vacancy} → x.parts ≡ (tables k t).parts → Vacant vs (tables k t).parts → Vacant vs (tables r t').parts
  vacant_still e v = rw (a.is, e) v

pub kept_same : (t : TablesMut) → StillKept t t
kept_same t = record { sized = λ s. s; unions = refl; members = refl }

-- the sizes of conditions are to be shown where a condition is entered
pub kept_sized : (t t' : TablesMut) {x : Tables} → AddedTo t t' x → x.unions ≡ (tables_mut_of t).unions → (Sized (tables_mut_of t) → Sized (tables_mut_of t')) → StillKept t t'
kept_sized t t' a u s = record { sized = s; unions = unions_are a ∙ u ∙ unions_counted t.counts t.area.now; members = a.members }

pub kept_with : (t t' : TablesMut) {x : Tables} → AddedTo t t' x → x.unions ≡ (tables_mut_of t).unions → x.conditions ≡ (tables_mut_of t).conditions → x.sizes ≡ (tables_mut_of t).sizes → StillKept t t'
kept_with t t' a u e f = kept_sized t t' a u (sized_still a t.area.now e f)

-- a part, as the tables have it
pub part_is : (k : Counts) (n : ℕ) (m u t : List ℕ) (p : ℕ) → part_at (gathered k n m u t) p ≡ get_or (tables k t).parts p no_part
unfolding part_at assembled
part_is k n m u t p = refl

-- ---- a draft as the areas of a catalogue

pub draft_is : (d : Draft) → catalogue (counts_in d) d.marks.now.area.now d.members.now.area.now d.tables.now.area.now ≡ catalogue_in d
unfolding catalogue tables tables_in
draft_is d = refl

pub draft_kept : (d : Draft) → Kept (counts_in d) d.marks.now.area.now d.members.now.area.now d.tables.now.area.now
unfolding tables tables_in
draft_kept d =
    let l = d.tables.now.laid in
    record {
      held = record {
        laid = record {
          names = l.names;
          parts = l.parts;
          ranges = l.ranges;
          unions = l.unions;
          members = d.members.now.bounded;
          conditions = l.conditions;
          requirements = l.requirements;
          constraints = l.constraints;
          fits = l.fits;
        };
        marks_fit = d.marks.now.room;
        unions_fit = d.members.now.room;
      };
      given = d.given;
      sized = d.sized;
    }

-- ---- an item that takes no row of union members

pub entered_refused : {c : Catalogue} {n : ℕ} {e : Item} {f : Refusal} → refusals.refuse (refusal_of f) ≡ add_item c e → Entered c n e (Err f) c n
unfolding answered rows_taken
entered_refused {n = n} x = record { is = x; members = sym (add-zero n) }

pub entered_well : {c c' : Catalogue} {n : ℕ} {e : Item} → rows_of e ≡ 0 → refusals.ok c' ≡ add_item c e → Entered c n e (Ok tt) c' n
unfolding answered rows_taken
entered_well {n = n} z x = record { is = x; members = rw z (sym (add-zero n)) }

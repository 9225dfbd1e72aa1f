-- What a draft holds, and what an item does to it.
use Rattle.std.specs.Prelude.{◌≡◌, Result}
use Rattle.rules.specs.Catalogue.{Catalogue}
use Rattle.rules.specs.Records.{Item}
use Rattle.refusal.specs.declared.Refusal.{Refusal}
use Rattle.tables.specs.declared.Counts.{Counts}
use Rattle.kept.specs.declared.Draft.{Draft}
use Rattle.kept.specs.Entered.{Entered}
use Rattle.kept.specs.Entering.{catalogue_of}

abbrev pub catalogue_in : Draft → Catalogue
catalogue_in d = catalogue_of d.marks.now d.members.now d.tables.now

abbrev pub counts_in : Draft → Counts
counts_in d = record d.tables.now.counts { members = d.members.now.count }

-- item e, of the draft d: the answer, and the draft after it
abbrev pub EnteredInto : Draft → Item → Result (Unit {0}) Refusal → Draft → Type 0
EnteredInto d e r d' = Entered (catalogue_in d) d.members.now.count e r (catalogue_in d') d'.members.now.count

-- all stays, byte for byte
pub record Unchanged (d d' : Draft) : Type 0 where
  pub counts : d'.tables.now.counts ≡ d.tables.now.counts
  pub tables : d'.tables.now.area.now ≡ d.tables.now.area.now
  pub marks : d'.marks.now.area.now ≡ d.marks.now.area.now
  pub count : d'.members.now.count ≡ d.members.now.count
  pub members : d'.members.now.area.now ≡ d.members.now.area.now
  pub vacancies : d'.vacancies.now ≡ d.vacancies.now

-- the lent areas are the same
pub record SameAreas (d d' : Draft) : Type 0 where
  pub marks : d'.marks.ghost_name ≡ d.marks.ghost_name
  pub members : d'.members.ghost_name ≡ d.members.ghost_name
  pub tables : d'.tables.ghost_name ≡ d.tables.ghost_name
  pub vacancies : d'.vacancies.ghost_name ≡ d.vacancies.ghost_name
  pub marks_area : d'.marks.now.area.ghost_name ≡ d.marks.now.area.ghost_name
  pub members_area : d'.members.now.area.ghost_name ≡ d.members.now.area.ghost_name
  pub tables_area : d'.tables.now.area.ghost_name ≡ d.tables.now.area.ghost_name

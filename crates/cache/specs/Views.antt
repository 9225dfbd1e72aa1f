-- The catalogue of lent areas.
use Rattle.rules.specs.Catalogue.{Catalogue}
use Rattle.cache.specs.declared.Areas.{Areas}
use Rattle.cache.specs.Areas.{catalogue}

abbrev pub areas_catalogue : Areas → Catalogue
areas_catalogue a = catalogue a.tables.counts a.marks.now a.unions.now a.tables.area.now

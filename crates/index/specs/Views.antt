-- A catalogue as the definitions have it.
use Rattle.std.specs.Prelude.{List, ℕ}
use Rattle.rules.specs.Catalogue.{Catalogue}
use Rattle.tables.specs.declared.Counts.{Counts}
use Rattle.tables.specs.Tables.{Tables, tables}
use Rattle.unions.specs.Unions.{Row, rows}
use Rattle.cache.specs.Views.{areas_catalogue}
use Rattle.index.specs.declared.Index as lent
use Rattle.index.specs.declared.Catalogue as formed

-- ---- with its chains

abbrev pub catalogue_in : lent.Index → Catalogue
catalogue_in c = areas_catalogue c.areas

abbrev pub counts_in : lent.Index → Counts
counts_in c = c.areas.tables.counts

-- the bytes of its tables
abbrev pub bytes_in : lent.Index → List ℕ
bytes_in c = c.areas.tables.area.now

-- the rows of its unions' members
abbrev pub rows_in : lent.Index → List Row
rows_in c = rows c.areas.tables.counts.members c.areas.unions.now

abbrev pub tables_in : lent.Index → Tables
tables_in c = tables c.areas.tables.counts c.areas.tables.area.now

-- ---- well formed

abbrev pub catalogue_of : formed.Catalogue → Catalogue
catalogue_of c = areas_catalogue c.index.areas

abbrev pub counts_of : formed.Catalogue → Counts
counts_of c = c.index.areas.tables.counts

abbrev pub bytes_of : formed.Catalogue → List ℕ
bytes_of c = c.index.areas.tables.area.now

abbrev pub tables_of : formed.Catalogue → Tables
tables_of c = tables c.index.areas.tables.counts c.index.areas.tables.area.now

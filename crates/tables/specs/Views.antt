-- The tables that a lent area holds.
use Rattle.tables.specs.declared.Tables as read
use Rattle.tables.specs.declared.TablesMut as written
use Rattle.tables.specs.Tables.{Tables, tables, Added}

abbrev pub tables_of : read.Tables → Tables
tables_of t = tables t.counts t.area.now

abbrev pub tables_mut_of : written.TablesMut → Tables
tables_mut_of t = tables t.counts t.area.now

-- t is what is left of s when one thing more was put: its area holds the tables x
abbrev pub AddedTo : (s t : written.TablesMut) → Tables → Type 0
AddedTo s t x = Added s.counts t.counts t.area.now x

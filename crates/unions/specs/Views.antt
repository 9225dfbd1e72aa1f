-- The rows that a lent area holds.
use Rattle.std.specs.Prelude.{List}
use Rattle.unions.specs.declared.Members as read
use Rattle.unions.specs.declared.MembersMut as written
use Rattle.unions.specs.Unions.{Row, rows}

abbrev pub rows_in : read.Members → List Row
rows_in m = rows m.count m.area.now

abbrev pub rows_in_mut : written.MembersMut → List Row
rows_in_mut m = rows m.count m.area.now

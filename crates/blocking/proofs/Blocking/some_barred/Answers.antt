-- `blocking::Blocking::some_barred` tells whether some range of a disjunct is blocked.
use borrow.Author.Rules.{rules}
use Rattle.blocking.proofs.Bars.{range_low, row_barred}
use Rattle.blocking.proofs.Blocking.some_barred.Goals as goal

pub range_blocked-requires : goal.range_blocked-requires
range_blocked-requires c = range_low c.requires c.ranges-r-items.ensures c.loop-r-test.true

pub returns-then-range_blocked : goal.returns-then-range_blocked
returns-then-range_blocked c = row_barred c.ranges-r-items.ensures c.loop-r-test.true (search rules)

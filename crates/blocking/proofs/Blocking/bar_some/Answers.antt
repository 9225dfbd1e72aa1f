use borrow.Author.Rules.{rules}
use mathlib.Core.Path.{sym}
use denote.Enum.Bare.{same_true}
use Rattle.blocking.specs.contracts.Verdict.{the_type}
use Rattle.blocking.proofs.Bars.{range_low, disjunct_here}
use Rattle.blocking.proofs.Blocking.bar_some.Goals as goal

pub range_verdict-verdict-requires-clause-r_lt_ranges : goal.range_verdict-verdict-requires-clause-r_lt_ranges
range_verdict-verdict-requires-clause-r_lt_ranges c = range_low c.requires.row c.ranges-r-items.ensures c.loop-r-test.true

pub returns-then-eq : goal.returns-then-eq
returns-then-eq c =
    disjunct_here c.loop-r.invariant c.ranges-r-items.ensures c.loop-r-test.true c.range_verdict-verdict.ensures (same_true the_type (search rules) _ _ (sym c.if-eq.ensures))

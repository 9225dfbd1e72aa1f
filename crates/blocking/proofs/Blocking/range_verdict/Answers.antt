-- `blocking::Blocking::range_verdict` gives the verdict of a range: it is blocked, or as it was told, or else it is asked now.
use borrow.Author.Rules.{rules}
use native.Mathlib.Omega.{arith}
use Rattle.blocking.proofs.Verdicts.{range_before, range_barred, range_unbarred}
use Rattle.blocking.proofs.Blocking.range_verdict.Goals as goal

pub returns-then-range_blocked : goal.returns-then-range_blocked
returns-then-range_blocked c = search (rules, range_before)

pub returns-then-bar_range : goal.returns-then-bar_range
returns-then-bar_range c = search (rules, range_barred)

pub returns-else-bar_range : goal.returns-else-bar_range
returns-else-bar_range c = range_unbarred c.range_holds.ensures c.if-range_holds.false c.bar_range.ensures (omega arith)

-- `blocking::Blocking::bar_range` blocks a range that does not hold, if its matching parts can be watched.
use borrow.Author.Rules.{rules}
use Rattle.blocking.proofs.Blocked.{bars_before, bars_not, bars_now}
use Rattle.blocking.proofs.Blocking.bar_range.Goals as goal

pub returns-in-Blocked : goal.returns-in-Blocked
returns-in-Blocked c = search (rules, bars_before)

pub returns-then-not-watch_parts : goal.returns-then-not-watch_parts
returns-then-not-watch_parts c = search (rules, bars_not)

pub returns-else-not-watch_parts : goal.returns-else-not-watch_parts
returns-else-not-watch_parts c = search (rules, bars_now)

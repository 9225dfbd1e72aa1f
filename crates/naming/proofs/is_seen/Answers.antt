-- `naming::is_seen` tells whether a name is flagged; past the flags none is.
use borrow.Author.Rules.{rules}
use Rattle.naming.specs.Naming.{is_seen}
use Rattle.naming.proofs.Firsts.{seen_past}
use Rattle.naming.proofs.is_seen.Goals as goal

pub returns-then-i-seen : goal.returns-then-i-seen
unfolding is_seen
returns-then-i-seen c = search rules

pub returns-else-i-seen : goal.returns-else-i-seen
returns-else-i-seen c = search (rules, seen_past)

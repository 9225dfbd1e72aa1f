-- `listing::waiting_lines` makes the chains and prints along them, where an entry waits.
use borrow.Author.Rules.{rules}
use Rattle.listing.proofs.Waiting.{none_waiting}
use Rattle.listing.proofs.waiting_lines.Goals as goal

pub returns-then-state-eq0 : goal.returns-then-state-eq0
returns-then-state-eq0 c = search (rules, none_waiting)

pub chained_lines-requires-clause-long : goal.chained_lines-requires-clause-long
chained_lines-requires-clause-long c = c.requires.long

pub chained_lines-requires-clause-all_given : goal.chained_lines-requires-clause-all_given
chained_lines-requires-clause-all_given c = c.requires.all_given

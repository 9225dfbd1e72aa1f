-- `commands::is_drawn` tells whether an entry is of the condition and its disjunct is flagged.
use borrow.Author.Rules.{rules}
use Rattle.commands.proofs.Drawing.{other_entry, its_flag}
use Rattle.commands.proofs.is_drawn.Goals as goal

pub returns-then-eq : goal.returns-then-eq
returns-then-eq c = search (rules, its_flag)

pub returns-else-eq : goal.returns-else-eq
returns-else-eq c = search (rules, other_entry)

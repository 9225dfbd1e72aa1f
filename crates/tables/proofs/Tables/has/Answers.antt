-- `has` gives the flag's bit of a part's flags, and `false` past the parts.
use borrow.Author.Rules.{rules}
use Rattle.tables.proofs.Laws.{flag_in, flag_past}
use Rattle.tables.proofs.Tables.has.Goals as goal

pub returns-then-part-self : goal.returns-then-part-self
returns-then-part-self c = search (rules, flag_in)

pub returns-else-part-self : goal.returns-else-part-self
returns-else-part-self c = search (rules, flag_past)

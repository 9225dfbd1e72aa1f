-- `goals::decided_false` tells whether a part's variable is decided false.
use borrow.Author.Rules.{rules}
use Rattle.goals.proofs.Decided.{part_in_tables}
use Rattle.goals.proofs.decided_false.Goals as goal

pub variable_of-requires-clause-o_value : goal.variable_of-requires-clause-o_value
variable_of-requires-clause-o_value c = search (rules, part_in_tables)

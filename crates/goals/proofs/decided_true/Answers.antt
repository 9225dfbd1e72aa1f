-- `goals::decided_true` tells whether a part has a variable that is decided true.
use borrow.Author.Rules.{rules}
use Rattle.goals.proofs.Decided.{part_in_tables, true_some, true_none}
use Rattle.goals.proofs.decided_true.Goals as goal

pub variable-requires-clause-origin_value : goal.variable-requires-clause-origin_value
variable-requires-clause-origin_value c = search (rules, part_in_tables)

pub returns-in-Some : goal.returns-in-Some
returns-in-Some c = search (rules, true_some)

pub returns-in-None : goal.returns-in-None
returns-in-None c = search (rules, true_none)

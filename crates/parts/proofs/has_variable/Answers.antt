-- `parts::has_variable` says of a part that has its variable that it does.
use borrow.Author.Rules.{rules}
use Rattle.parts.proofs.Names.{part_fits, variable_some}
use Rattle.parts.proofs.has_variable.Goals as goal

pub variable-requires-clause-origin_value : goal.variable-requires-clause-origin_value
variable-requires-clause-origin_value c = search (rules, part_fits)

pub returns : goal.returns
returns c = search (rules, variable_some)

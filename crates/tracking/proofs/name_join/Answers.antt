-- `tracking::name_join` gives a part and the first h helpers of its name their variables.
use borrow.Author.Rules.{rules}
use Rattle.goals.proofs.Decided.{part_in_tables}
use Rattle.tracking.proofs.Helpers.{joins_named}
use Rattle.tracking.proofs.Steps.{any_named}
use Rattle.tracking.proofs.name_join.Goals as goal

pub name_variable-requires-clause-o_value : goal.name_variable-requires-clause-o_value
name_variable-requires-clause-o_value c = search (rules, part_in_tables)

pub name_helpers-requires-clause-good_any : goal.name_helpers-requires-clause-good_any
name_helpers-requires-clause-good_any c = any_named _ c.requires.good_any c.name_variable.ensures

pub returns : goal.returns
returns c = search (rules, joins_named)

use borrow.Author.Rules.{rules}
use Rattle.tracking.proofs.Steps.{any_mapped}
use Rattle.tracking.proofs.Helpers.{helper_in_tables, naming_start, naming_step, naming_end}
use Rattle.tracking.proofs.name_helpers.Goals as goal

pub loop-j-init : goal.loop-j-init
loop-j-init c = search (rules, naming_start)

pub name_variable-requires-clause-o_value : goal.name_variable-requires-clause-o_value
name_variable-requires-clause-o_value c = search (rules, helper_in_tables, any_mapped)

pub loop-j-preserved : goal.loop-j-preserved
loop-j-preserved c = search (rules, naming_step)

pub returns : goal.returns
returns c = search (rules, naming_end)

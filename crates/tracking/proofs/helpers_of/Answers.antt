use borrow.Author.Rules.{rules}
use Rattle.tracking.proofs.Helpers.{helper_in_tables, gathering_start, gathering_step}
use Rattle.tracking.proofs.helpers_of.Goals as goal

pub loop-j-init : goal.loop-j-init
loop-j-init c = search (rules, gathering_start)

pub loop-j-preserved : goal.loop-j-preserved
loop-j-preserved c = search (rules, gathering_step)

pub variable_of-requires-clause-o_value : goal.variable_of-requires-clause-o_value
variable_of-requires-clause-o_value c = search (rules, helper_in_tables)

-- `tracking::join_clauses` adds all clauses of a part that has a variable.
use borrow.Author.Rules.{rules}
use Rattle.goals.proofs.Decided.{part_in_tables}
use Rattle.tracking.proofs.Clauses.{few_helpers, part_below, helpers_count, helpers_below, joined_all}
use Rattle.tracking.proofs.join_clauses.Goals as goal

pub variable_of-x-requires-clause-o_value : goal.variable_of-x-requires-clause-o_value
variable_of-x-requires-clause-o_value c = search (rules, part_in_tables)

pub helpers_of-helpers-requires-clause-name_bound : goal.helpers_of-helpers-requires-clause-name_bound
helpers_of-helpers-requires-clause-name_bound c = (search rules, search (rules, few_helpers))

pub add_tracked-requires-clause-i_bound : goal.add_tracked-requires-clause-i_bound
add_tracked-requires-clause-i_bound c = (search rules, search (rules, part_below), search rules)

pub add_tracked-requires-clause-helpers_below : goal.add_tracked-requires-clause-helpers_below
add_tracked-requires-clause-helpers_below c = search (rules, helpers_below)

pub returns : goal.returns
returns c = joined_all c.requires.good_some c.requires.can_add_part _ c.variable_of-x.ensures c.helpers_of-helpers.ensures c.add_tracked.ensures

pub slice_bounds-helpers-end : goal.slice_bounds-helpers-end
slice_bounds-helpers-end c = search (rules, few_helpers)

pub slice_bounds-add_tracked-end : goal.slice_bounds-add_tracked-end
slice_bounds-add_tracked-end c = helpers_count _ _ _ _ c.helpers_of-helpers.ensures

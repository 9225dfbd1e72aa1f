-- `tracking::new_helper` adds the clauses of a helper that the earlier parts did not need.
use mathlib.Core.Path.{refl}
use borrow.Author.Rules.{rules}
use Rattle.tracking.proofs.Clauses.{helper_below, new_helper_none, new_helper_one}
use Rattle.tracking.proofs.new_helper.Goals as goal

pub helper_clauses-requires-clause-y_lt_variables : goal.helper_clauses-requires-clause-y_lt_variables
helper_clauses-requires-clause-y_lt_variables c = (search (rules, helper_below), search rules)

pub returns-then-h-helpers : goal.returns-then-h-helpers
returns-then-h-helpers c = new_helper_one c.requires.helpers_below c.helpers_for-h.ensures _ c.if-h-helpers.true refl c.helper_clauses.ensures

pub returns-else-h-helpers : goal.returns-else-h-helpers
returns-else-h-helpers c = search (rules, new_helper_none)

-- `tracking::tracked_variable` looks up the variable of the tracked part at a place.
use borrow.Author.Rules.{rules}
use Rattle.tracking.proofs.Parts.{place_low, place_is}
use Rattle.tracking.proofs.tracked_variable.Goals as goal

pub variable_of-requires-clause-o_value : goal.variable_of-requires-clause-o_value
variable_of-requires-clause-o_value c = search (rules, place_low)

pub returns : goal.returns
returns c = search (rules, place_is)

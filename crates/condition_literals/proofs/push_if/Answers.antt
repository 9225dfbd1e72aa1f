-- `condition_literals::push_if` puts part p behind them, if it is a non-matching part of the range.
use borrow.Author.Rules.{rules}
use Rattle.goals.proofs.Decided.{part_in_tables}
use Rattle.condition_literals.proofs.Literals.{if_known, if_pushed, if_not}
use Rattle.condition_literals.proofs.push_if.Goals as goal

pub literal_of-literal-requires-clause-o_value : goal.literal_of-literal-requires-clause-o_value
literal_of-literal-requires-clause-o_value c = (search (rules, part_in_tables), search (rules, if_known))

pub returns-then-chosen : goal.returns-then-chosen
returns-then-chosen c = search (rules, if_pushed)

pub returns : goal.returns
returns c = search (rules, if_not)

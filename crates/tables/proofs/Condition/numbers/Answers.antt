-- A condition's numbers stand for it.
use borrow.Author.Rules.{rules}
use Rattle.rules.specs.Items.{operator_of}
use Rattle.tables.specs.Tables.{condition_from, condition_by}
use Rattle.tables.proofs.Condition.numbers.Goals as goal

pub returns-in-Range : goal.returns-in-Range
unfolding condition_from condition_by operator_of
returns-in-Range c = search rules

pub returns-in-And : goal.returns-in-And
unfolding condition_from condition_by operator_of
returns-in-And c = search rules

pub returns-in-Or : goal.returns-in-Or
unfolding condition_from condition_by operator_of
returns-in-Or c = search rules

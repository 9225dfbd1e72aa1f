-- `commands::decide_to` carries a decision out, or gives the first of its refusals.
use borrow.Author.Rules.{rules}
use Rattle.commands.proofs.Deciding.{literal_below, decide_missing, decide_other, decide_low, decide_carried}
use Rattle.commands.proofs.decide_to.Goals as goal

pub returns-then-variable-variables : goal.returns-then-variable-variables
returns-then-variable-variables c = search (rules, decide_missing)

pub returns-then-value-gt1 : goal.returns-then-value-gt1
returns-then-value-gt1 c = search (rules, decide_other)

pub returns-then-too_low : goal.returns-then-too_low
returns-then-too_low c = search (rules, decide_low)

pub returns : goal.returns
returns c = search (rules, decide_carried)

pub decide_literal-requires-clause-kept : goal.decide_literal-requires-clause-kept
decide_literal-requires-clause-kept c = (c.requires.kept.0, literal_below _ _ c.new.ensures c.if-variable-variables.false c.requires.kept.1)

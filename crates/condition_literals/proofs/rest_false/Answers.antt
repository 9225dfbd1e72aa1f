-- `condition_literals::rest_false` tells whether there are literals beside the owner's, and all are decided false.
use borrow.Author.Rules.{rules}
use mathlib.Core.Path.{◌∙◌}
use Rattle.condition_literals.proofs.Falsified.{hand_known, rest_all, rest_some, rest_fails, rest_held}
use Rattle.condition_literals.proofs.rest_false.Goals as goal

pub all_false-requires-clause-all_known : goal.all_false-requires-clause-all_known
all_false-requires-clause-all_known c = search (rules, hand_known)

pub all_false-requires-then-literals_false-clause-all_known : goal.all_false-requires-then-literals_false-clause-all_known
all_false-requires-then-literals_false-clause-all_known c = search (rules, hand_known)

pub returns-then-all_false : goal.returns-then-all_false
returns-then-all_false c = search (rules, rest_all)

pub returns-else-all_false : goal.returns-else-all_false
returns-else-all_false c = c.if-all_false.false ∙ rest_some c.requires.at_hand _ _ _ _ _ _ c.all_false.ensures c.if-all_false.false c.if-count-eq0.true

pub returns-then-literals_false : goal.returns-then-literals_false
returns-then-literals_false c = search (rules, rest_held)

pub returns-else-literals_false : goal.returns-else-literals_false
returns-else-literals_false c = c.if-literals_false.false ∙ rest_fails c.requires.at_hand _ _ _ _ _ _ c.literals_false.ensures c.if-literals_false.false

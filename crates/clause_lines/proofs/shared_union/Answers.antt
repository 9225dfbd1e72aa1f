-- `clause_lines::shared_union` copies the literals of a union that stand already; others it prints, and keeps where.
use borrow.Author.Rules.{rules}
use Rattle.clause_lines.proofs.Copying.{stand_still, again_text, again_stand, again_none, fresh, stand_new}
use Rattle.clause_lines.proofs.shared_union.Goals as goal

pub returns-then-again-clause-wrote : goal.returns-then-again-clause-wrote
returns-then-again-clause-wrote c = search (rules, again_text)

pub returns-then-again-clause-spans_2 : goal.returns-then-again-clause-spans_2
returns-then-again-clause-spans_2 c = search (rules, again_stand)

pub union_literals-requires-clause-spans : goal.union_literals-requires-clause-spans
union_literals-requires-clause-spans c = search (rules, stand_still, again_none)

pub returns-clause-wrote : goal.returns-clause-wrote
returns-clause-wrote c = search (rules, fresh)

pub returns-clause-spans_2 : goal.returns-clause-spans_2
returns-clause-spans_2 c = search (rules, stand_new)

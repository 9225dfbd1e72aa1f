-- `clause_lines::shared_range` copies the literals of a range that stand already; others it prints, and keeps where.
use borrow.Author.Rules.{rules}
use Rattle.clause_lines.proofs.Copying.{again_text, again_stand, fresh, kept_fresh}
use Rattle.clause_lines.proofs.Walks.{range_known, range_written}
use Rattle.clause_lines.proofs.shared_range.Goals as goal

pub returns-then-again-clause-wrote : goal.returns-then-again-clause-wrote
returns-then-again-clause-wrote c = search (rules, again_text)

pub returns-then-again-clause-spans_2 : goal.returns-then-again-clause-spans_2
returns-then-again-clause-spans_2 c = search (rules, again_stand)

pub range_literals-requires-clause-all_known : goal.range_literals-requires-clause-all_known
range_literals-requires-clause-all_known c = search (rules, range_known)

pub returns-clause-wrote : goal.returns-clause-wrote
returns-clause-wrote c = search (rules, fresh, range_written)

pub returns-clause-spans_2 : goal.returns-clause-spans_2
returns-clause-spans_2 c = search (rules, kept_fresh, range_written)

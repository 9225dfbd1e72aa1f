use borrow.Author.Rules.{rules}
use Rattle.goals.proofs.Hand.{member_is}
use Rattle.clause_lines.proofs.Copying.{none_text}
use Rattle.clause_lines.proofs.Walks.{walking_start, walking_known, walking_step, walking_end, walking_over}
use Rattle.clause_lines.proofs.union_literals.Goals as goal

pub returns-then-no_candidate-clause-wrote : goal.returns-then-no_candidate-clause-wrote
returns-then-no_candidate-clause-wrote c = search (rules, none_text)

pub loop-i-init : goal.loop-i-init
loop-i-init c = (search (rules, walking_start), search rules)

pub returns-then-is_over-clause-wrote : goal.returns-then-is_over-clause-wrote
returns-then-is_over-clause-wrote c = search (rules, walking_over)

pub returns-clause-wrote : goal.returns-clause-wrote
returns-clause-wrote c = search (rules, walking_end)

pub shared_range-requires-clause-all_known : goal.shared_range-requires-clause-all_known
shared_range-requires-clause-all_known c = walking_known c.loop-i.invariant.0 _ c.loop-i-test.true (member_is _ _ c.as_members.ensures.area c.as_members.ensures.count c.at-member.ensures)

pub loop-i-preserved : goal.loop-i-preserved
loop-i-preserved c = (search (rules, walking_step), search rules)

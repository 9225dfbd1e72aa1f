use borrow.Author.Rules.{rules}
use Rattle.condition_literals.proofs.Literals.{going_first, going_known, going_next, going_end}
use Rattle.condition_literals.proofs.part_literals.Goals as goal

pub loop-p-init : goal.loop-p-init
loop-p-init c = search (rules, going_first)

pub push_if-all-requires-clause-all_known : goal.push_if-all-requires-clause-all_known
push_if-all-requires-clause-all_known c = search (rules, going_known)

pub loop-p-preserved : goal.loop-p-preserved
loop-p-preserved c = search (rules, going_next)

pub returns : goal.returns
returns c = search (rules, going_end)

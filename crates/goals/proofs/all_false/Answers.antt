use borrow.Author.Rules.{rules}
use Rattle.goals.proofs.Decided.{refute_known, refute_step, refute_fails, refute_end}
use Rattle.goals.proofs.all_false.Goals as goal

pub range_false-requires-clause-all_known : goal.range_false-requires-clause-all_known
range_false-requires-clause-all_known c = search (rules, refute_known)

pub returns-then-not-range_false : goal.returns-then-not-range_false
returns-then-not-range_false c = search (rules, refute_fails)

pub returns : goal.returns
returns c = search (rules, refute_end)

pub loop-j-preserved : goal.loop-j-preserved
loop-j-preserved c = search (rules, refute_step)

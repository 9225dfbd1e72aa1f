use borrow.Author.Rules.{rules}
use Rattle.goals.proofs.Decided.{lack_step, lack_found, lack_end}
use Rattle.goals.proofs.some_candidate.Goals as goal

pub returns-then-matching_count-gt0 : goal.returns-then-matching_count-gt0
returns-then-matching_count-gt0 c = search (rules, lack_found)

pub returns : goal.returns
returns c = search (rules, lack_end)

pub loop-j-preserved : goal.loop-j-preserved
loop-j-preserved c = search (rules, lack_step)

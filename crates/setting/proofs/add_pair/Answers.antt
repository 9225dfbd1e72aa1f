use borrow.Author.Rules.{rules}
use Rattle.storing.proofs.Added.{pair_nothing, pair_conflict, pair_sets_first, pair_sets_second}
use Rattle.setting.proofs.add_pair.Goals as goal

pub returns-in-Nothing : goal.returns-in-Nothing
returns-in-Nothing c = search (rules, pair_nothing)

pub returns-in-Conflict : goal.returns-in-Conflict
returns-in-Conflict c = search (rules, pair_conflict)

pub returns-in-SetsFirst : goal.returns-in-SetsFirst
returns-in-SetsFirst c = search (rules, pair_sets_first)

pub returns-in-SetsSecond : goal.returns-in-SetsSecond
returns-in-SetsSecond c = search (rules, pair_sets_second)

-- `goals::gather` lists the ranges of a goal, each once.
use borrow.Author.Rules.{rules}
use Rattle.goals.proofs.Hand.{range_given, union_given, gather_range, gather_union}
use Rattle.goals.proofs.gather.Goals as goal

pub note-requires : goal.note-requires
note-requires c = search (rules, range_given)

pub gather_union-requires : goal.gather_union-requires
gather_union-requires c = search (rules, union_given)

pub returns-in-Single : goal.returns-in-Single
returns-in-Single c = search (rules, gather_range)

pub returns-in-Union : goal.returns-in-Union
returns-in-Union c = search (rules, gather_union)

-- `disjunct_of` starts with no range; a disjunct has 16 at most.
use borrow.Author.Rules.{rules}
use Rattle.conditions.proofs.Laws.{alone, carried}
use Rattle.conditions.proofs.Conditions.disjunct_of.Goals as goal

pub push_disjunct-requires-clause-room : goal.push_disjunct-requires-clause-room
push_disjunct-requires-clause-room c = search (rules, alone)

pub returns : goal.returns
returns c = search (rules, carried)

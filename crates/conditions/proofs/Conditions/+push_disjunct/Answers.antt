use borrow.Author.Rules.{rules}
use Rattle.conditions.proofs.Laws.{range_room, range_is, half_falls, half_below, half_there, half_room, half_is}
use Rattle.conditions.proofs.Laws.{left_falls, left_below, left_there, left_room, right_falls, right_below, right_there, right_room, halves_is}
use Rattle.conditions.proofs.Conditions.+push_disjunct.Goals as goal

pub push-requires : goal.push-requires
push-requires t c = search (rules, range_room)

pub push_disjunct-requires : goal.push_disjunct-requires
push_disjunct-requires t c = (search (rules, half_falls), (search (rules, half_below), (search (rules, half_there), search (rules, half_room))))

pub push_disjunct-requires-in-Halves : goal.push_disjunct-requires-in-Halves
push_disjunct-requires-in-Halves t c = (search (rules, left_falls), (search (rules, left_below), (search (rules, left_there), search (rules, left_room))))

pub push_disjunct-requires-in-Halves-2 : goal.push_disjunct-requires-in-Halves-2
push_disjunct-requires-in-Halves-2 t c = (search (rules, right_falls), (search (rules, right_below), (search (rules, right_there), search (rules, right_room))))

pub returns-in-Range : goal.returns-in-Range
returns-in-Range t c = search (rules, range_is)

pub returns-in-Half : goal.returns-in-Half
returns-in-Half t c = search (rules, half_is)

pub returns-in-Halves : goal.returns-in-Halves
returns-in-Halves t c = search (rules, halves_is)

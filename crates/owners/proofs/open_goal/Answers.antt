-- `owners::open_goal` opens the names of a goal's ranges.
use Rattle.owners.proofs.Names.{single_given, union_given, single_opened, union_opened}
use Rattle.owners.proofs.open_goal.Goals as goal

pub open_range-requires-clause-r_lt_ranges : goal.open_range-requires-clause-r_lt_ranges
open_range-requires-clause-r_lt_ranges c = single_given _ _ _ _ c.in-Single.is c.requires.goal_given

pub open_union-requires-clause-u_lt_unions : goal.open_union-requires-clause-u_lt_unions
open_union-requires-clause-u_lt_unions c = union_given _ _ _ _ c.in-Union.is c.requires.goal_given

pub returns-in-Single : goal.returns-in-Single
returns-in-Single c = single_opened c.in-Single.is c.open_range.ensures

pub returns-in-Union : goal.returns-in-Union
returns-in-Union c = union_opened c.in-Union.is c.open_union.ensures

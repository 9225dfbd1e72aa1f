-- `serving::goal_place` gives the place of a requirement's goal among the flags.
use Rattle.index.proofs.Given.{catalogued}
use Rattle.serving.proofs.Flags.{range_placed, union_placed}
use Rattle.serving.proofs.goal_place.Goals as goal

pub returns-in-Single : goal.returns-in-Single
returns-in-Single c = range_placed _ _ _ _ _ _ c.requirement_at-it.ensures (catalogued c.args.catalogue.now) c.requires.q_lt_requirements _ c.in-Single.is

pub returns-in-Union : goal.returns-in-Union
returns-in-Union c = union_placed _ _ _ _ _ _ c.requirement_at-it.ensures (catalogued c.args.catalogue.now) c.requires.q_lt_requirements _ c.in-Union.is

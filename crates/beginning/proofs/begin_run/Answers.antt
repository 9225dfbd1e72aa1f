-- `beginning::begin_run` begins a run.
use Rattle.beginning.proofs.Begin.{good_emptied, added_after, good_begun, begun_limits, drawn_given, drawn_few, run_begins}
use Rattle.beginning.proofs.begin_run.Goals as goal

pub open_added-requires : goal.open_added-requires
open_added-requires c = good_emptied c.requires.reaches.holds.good c.empty_line.ensures

pub forget_added-requires : goal.forget_added-requires
forget_added-requires c = added_after c.requires.reaches.holds.good c.empty_line.ensures c.open_added.ensures

pub fire_drawn-requires-clause-good : goal.fire_drawn-requires-clause-good
fire_drawn-requires-clause-good c = good_begun c.requires.reaches.holds.good c.empty_line.ensures c.open_added.ensures c.forget_added.ensures

pub fire_drawn-requires-clause-long : goal.fire_drawn-requires-clause-long
fire_drawn-requires-clause-long c =
    let same = begun_limits c.requires.reaches.holds.good c.empty_line.ensures c.open_added.ensures c.forget_added.ensures in
    let long = c.requires.long_enough.0 in
    rw same (record { waiting = long.waiting; long = long.entries }, drawn_few c.requires.reaches)

pub fire_drawn-requires-clause-all_given : goal.fire_drawn-requires-clause-all_given
fire_drawn-requires-clause-all_given c =
    let same = begun_limits c.requires.reaches.holds.good c.empty_line.ensures c.open_added.ensures c.forget_added.ensures in
    rw same (drawn_given c.requires.reaches)

pub returns : goal.returns
returns c =
    let good = c.requires.reaches.holds.good in
    run_begins good c.requires.reaches.holds.hand c.empty_line.ensures c.open_added.ensures c.forget_added.ensures
    (begun_limits good c.empty_line.ensures c.open_added.ensures c.forget_added.ensures) c.fire_drawn.ensures

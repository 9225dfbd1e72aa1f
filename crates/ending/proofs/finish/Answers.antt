-- `ending::finish`: 11 where something added or drawn is left, and then the listing.
use Rattle.ending.proofs.Ending.{added_left, drawn_left, none_left_over}
use Rattle.ending.proofs.finish.Goals as goal
use Rattle.ending.proofs.finish.Goals.{then-state-ne0-via-then-state-ne0, then-state-ne0-via-else-state-ne0+then-state-ne0-2}

pub returns-then-state-ne0 : goal.returns-then-state-ne0
returns-then-state-ne0 c =
    elim c.then-state-ne0.branch [
      | then-state-ne0-via-then-state-ne0 w ↦ added_left _ w.if-state-ne0.true
      | then-state-ne0-via-else-state-ne0+then-state-ne0-2 w ↦ drawn_left _ w.if-state-ne0-2.true
    ]

pub returns : goal.returns
returns c = none_left_over c.if-state-ne0.false c.if-state-ne0-2.false c.print.ensures

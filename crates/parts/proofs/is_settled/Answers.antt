-- `parts::is_settled` says so only of a part that has all it can be given.
use mathlib.Core.Path.{ap}
use mathlib.Core.Bool.{not}
use Rattle.parts.proofs.Names.{settled_open, settled_closed}
use Rattle.parts.proofs.is_settled.Goals as goal

pub returns-then-has : goal.returns-then-has
returns-then-has c = settled_open _ _ _ _ _ c.requires.good c.has_variable.ensures (ap not c.if-not-has_variable.false) c.is_tracked.ensures (ap not c.if-not-is_tracked.false) c.has.ensures c.if-has.true c.requires.p_bound c.lists.ensures

pub returns : goal.returns
returns c = settled_closed _ _ _ _ _ c.requires.good c.has_variable.ensures (ap not c.if-not-has_variable.false) c.is_tracked.ensures (ap not c.if-not-is_tracked.false) c.has.ensures c.if-has.false

-- `shorten` has a chain pass its idle rows. The invariant: the chain leads from row `last` to row i.
use Prim.Native.Nat.{◌-◌}
use Rattle.index.proofs.Steps.{ShortenedTo}
use Rattle.index.proofs.building.Building.shorten.Given as goal

abbrev pub invariant-loop-i : goal.invariant-loop-i
invariant-loop-i l = ShortenedTo l.initial.self l.self l.last l.i l.seen

abbrev pub decreases-loop-i : goal.decreases-loop-i
decreases-loop-i l = l.self.counts.members - l.i

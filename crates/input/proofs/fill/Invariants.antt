-- What is read lies within the area and is what was consumed; each turn leaves less room.
use Rattle.std.proofs.Common.{◌≡◌, ◌-◌, ◌≤◌, length, take}
use Rattle.std.specs.Io.KnownBytes.{Consumes}
use Rattle.input.proofs.fill.Given as goal

abbrev pub invariant-loop-at : goal.invariant-loop-at
invariant-loop-at g l = (length l.area ≡ length l.initial.area) × (l.at ≤ length l.area)
    × Consumes (g.R.Read.remaining l.initial.reader) (g.R.Read.remaining l.reader) (take l.at l.area)

abbrev pub decreases-loop-at : goal.decreases-loop-at
decreases-loop-at g l = length l.area - l.at

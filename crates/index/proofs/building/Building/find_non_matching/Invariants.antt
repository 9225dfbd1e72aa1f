-- `find_non_matching`. The invariant: no part before `part` is non-matching.
use Prim.Native.Nat.{◌-◌}
use Rattle.tables.specs.Tables.{tables}
use Rattle.index.specs.Chains.{is_non_matching, Skips}
use Rattle.index.proofs.building.Building.find_non_matching.Given as goal

abbrev pub invariant-loop-part : goal.invariant-loop-part
invariant-loop-part l = Skips l.self.counts.parts (is_non_matching (tables l.self.counts l.self.area.now) l.self.marks.now l.range) 0 l.part

abbrev pub decreases-loop-part : goal.decreases-loop-part
decreases-loop-part l = l.self.counts.parts - l.part

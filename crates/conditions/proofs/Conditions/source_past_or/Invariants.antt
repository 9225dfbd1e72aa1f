-- `source_past_or` follows the halves of an `or`. The invariant: the disjunct comes from the source at hand. A half has a smaller number.
use Rattle.conditions.specs.Disjuncts.{From, conditions_of}
use Rattle.conditions.proofs.Laws.{steps}
use Rattle.conditions.proofs.Conditions.source_past_or.Given as goal

abbrev pub invariant-loop-source : goal.invariant-loop-source
invariant-loop-source l = From (conditions_of l.self) l.condition l.i l.source

abbrev pub decreases-loop-source : goal.decreases-loop-source
decreases-loop-source l = steps l.source

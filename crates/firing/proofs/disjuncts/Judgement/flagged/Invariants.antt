-- `firing::disjuncts::Judgement::flagged` lists the disjuncts that are flagged, or those that are not. The invariant: what is listed, with what passes of those that are left,
-- is what passes of all.
use Rattle.firing.proofs.Judging.{Listing}
use Rattle.firing.proofs.disjuncts.Judgement.flagged.Given as goal

abbrev pub invariant-loop-i : goal.invariant-loop-i
invariant-loop-i l = Listing l.self.flags l.self.count l.holds l.indices l.i

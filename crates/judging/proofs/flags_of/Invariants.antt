-- `judging::flags_of` gives a flag for each verdict. The invariant: the first i flags are set.
use Rattle.judging.proofs.Judging.{FlagsSoFar}
use Rattle.judging.proofs.flags_of.Given as goal

abbrev pub invariant-loop-i : goal.invariant-loop-i
invariant-loop-i l = FlagsSoFar l.row l.i l.flags

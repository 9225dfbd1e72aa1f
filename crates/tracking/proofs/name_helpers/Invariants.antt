-- `tracking::name_helpers` gives the first h helpers of a name their variables. The invariant: the first j have theirs.
use Rattle.tracking.proofs.Helpers.{Naming}
use Rattle.tracking.proofs.name_helpers.Given as goal

abbrev pub invariant-loop-j : goal.invariant-loop-j
invariant-loop-j l = Naming l.name l.h l.initial.state l.state l.j

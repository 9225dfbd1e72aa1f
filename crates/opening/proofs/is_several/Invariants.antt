-- `opening::is_several` looks through the names. The invariant: none of those passed is the one.
use Rattle.opening.proofs.Several.{Sought}
use Rattle.opening.proofs.is_several.Given as goal

abbrev pub invariant-loop-i : goal.invariant-loop-i
invariant-loop-i l = Sought l.state.limits l.state.area.now l.name l.state.used.several l.i

-- `tracking::helpers_of` collects the variables of the first h helpers. The invariant: the first j are in.
use Rattle.encoder.specs.Does.{variables_of}
use Rattle.tracking.proofs.Helpers.{Gathering}
use Rattle.tracking.proofs.helpers_of.Given as goal

abbrev pub invariant-loop-j : goal.invariant-loop-j
invariant-loop-j l = Gathering (variables_of l.state) l.name l.h l.helpers l.j

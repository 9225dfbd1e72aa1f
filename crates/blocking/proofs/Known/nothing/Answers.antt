-- `blocking::Known::nothing` has asked nothing.
use Rattle.blocking.proofs.Verdicts.{nothing_asked}
use Rattle.blocking.proofs.Known.nothing.Goals as goal

pub returns : goal.returns
returns c = nothing_asked

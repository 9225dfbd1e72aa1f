-- `judging::Known::nothing` knows no verdict.
use Rattle.judging.proofs.Judging as Judging
use Rattle.judging.proofs.Known.nothing.Goals as goal

pub returns : goal.returns
returns c = Judging.nothing

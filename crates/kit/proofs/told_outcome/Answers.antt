-- `kit::told_outcome` answers as `told` says.
use borrow.Author.Rules.{rules}
use Rattle.kit.proofs.Running.{accepted_told, refused_told}
use Rattle.kit.proofs.told_outcome.Goals as goal

pub returns-in-Ok : goal.returns-in-Ok
returns-in-Ok c = accepted_told _ (search rules) c.accepted.ensures

pub returns-in-Err : goal.returns-in-Err
returns-in-Err c = refused_told _ (search rules) c.refused.ensures

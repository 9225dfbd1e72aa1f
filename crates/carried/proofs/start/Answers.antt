-- `carried::start` puts the state at the start into areas that were cleared.
use mathlib.Core.Path.{refl}
use native.Mathlib.Omega.{arith}
use Rattle.carried.proofs.Starting.{started}
use Rattle.carried.proofs.start.Goals as goal

pub returns-clause-started : goal.returns-clause-started
returns-clause-started c =
    started _ _ _ _ refl c.requires.fits c.requires.cleared (omega arith) c.start-variables.ensures c.append-stored.ensures.value c.append-stored.ensures.clauses_after c.row.ensures

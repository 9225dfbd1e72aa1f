use native.Mathlib.Omega.{arith}
use borrow.Author.Rules.{rules}
use mathlib.Core.Path.{refl}
use Rattle.index.proofs.Steps.{unlinked_none_yet, unlinked_step, unlinked_last}
use Rattle.index.proofs.building.Building.start_unions.Goals as goal

pub loop-union-init : goal.loop-union-init
loop-union-init c = unlinked_none_yet _

pub loop-union-preserved : goal.loop-union-preserved
loop-union-preserved c = unlinked_step c.loop-union.invariant (omega arith) refl c.put.ensures (search rules)

pub returns-clause-unlinked : goal.returns-clause-unlinked
returns-clause-unlinked c = search (rules, unlinked_last)

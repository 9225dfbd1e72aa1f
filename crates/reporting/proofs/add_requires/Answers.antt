use mathlib.Core.Path.{refl}
use borrow.Author.Rules.{rules}
use Rattle.storing.proofs.Added.{requires_full, requires_over}
use Rattle.reporting.proofs.add_requires.Goals as goal

pub returns-then-state-ne0-clause-added : goal.returns-then-state-ne0-clause-added
returns-then-state-ne0-clause-added c = search (rules, requires_full)

pub returns-then-state-count-clause-added : goal.returns-then-state-count-clause-added
returns-then-state-count-clause-added c = requires_over refl refl c.if-state-count.true c.filled-state.ensures

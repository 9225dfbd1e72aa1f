use mathlib.Core.Path.{refl}
use borrow.Author.Rules.{rules}
use Rattle.storing.proofs.Storing.{store_full, store_more, store_over}
use Rattle.storing.proofs.store.Goals as goal

pub returns-then-state-ne0 : goal.returns-then-state-ne0
returns-then-state-ne0 c = search (rules, store_full)

pub returns-then-state : goal.returns-then-state
returns-then-state c = store_more refl refl c.if-state.true refl c.append-state.ensures.value c.append-state.ensures.clauses_after c.row.ensures c.condition_literals.ensures

pub returns-else-state : goal.returns-else-state
returns-else-state c = store_over refl refl c.requires.0 c.if-state.false c.filled-state.ensures

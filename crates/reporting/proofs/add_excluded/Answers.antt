use Rattle.storing.proofs.Added.{excluded_unknown, excluded_else}
use Rattle.reporting.proofs.add_excluded.Goals as goal
use Rattle.reporting.proofs.add_excluded.Goals.{then-unknown, else-unknown}

pub returns-clause-added : goal.returns-clause-added
returns-clause-added c = elim c.if-unknown.branch [
  | then-unknown w ↦
      excluded_unknown c.requires.can_add c.requires.number_nonzero c.store.ensures w.clause-is c.is_true.ensures c.then_some-conflict.ensures w.if-unknown.true
  | else-unknown w ↦
      excluded_else c.requires.can_add c.requires.number_nonzero c.store.ensures w.clause-is c.is_true.ensures c.then_some-conflict.ensures w.if-unknown.false
]

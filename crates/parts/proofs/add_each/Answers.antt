use borrow.Author.Rules.{rules}
use Rattle.encoder.proofs.Does.{long_then}
use Rattle.parts.proofs.Clauses.{adding_first, adding_next, adding_end, still_can}
use Rattle.parts.proofs.add_each.Goals as goal

pub loop-p-init : goal.loop-p-init
loop-p-init c = search (rules, adding_first)

pub add_if-requires-clause-long_enough : goal.add_if-requires-clause-long_enough
add_if-requires-clause-long_enough c = long_then c.loop-p.invariant.does.limits c.loop-p.invariant.same_clauses c.requires.long_enough

pub add_if-requires-clause-can_add : goal.add_if-requires-clause-can_add
add_if-requires-clause-can_add c = still_can c.loop-p.invariant.does.limits c.requires.can_add

pub loop-p-preserved : goal.loop-p-preserved
loop-p-preserved c = search (rules, adding_next)

pub returns : goal.returns
returns c = adding_end _ _ _ _ c.loop-p.invariant c.loop-p-test.false

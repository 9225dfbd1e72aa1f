-- `commands::decide_literal` decides a literal that is undecided, leaves one that is true, and refuses one that is false.
use borrow.Author.Rules.{rules}
use Rattle.decision_tracker.proofs.Laws.{literal_free}
use Rattle.commands.proofs.Deciding.{decided_again, decided_against_law, decided_new}
use Rattle.commands.proofs.decide_literal.Goals as goal

pub decide-requires-clause-fits : goal.decide-requires-clause-fits
decide-requires-clause-fits c = search (rules, literal_free)

pub decide-requires-clause-free : goal.decide-requires-clause-free
decide-requires-clause-free c = search (rules, literal_free)

pub returns-in-Some-true : goal.returns-in-Some-true
returns-in-Some-true c = decided_again _ c.eval.ensures (cc)

pub returns-in-Some-false : goal.returns-in-Some-false
returns-in-Some-false c = decided_against_law _ c.eval.ensures (cc)

pub returns-in-None : goal.returns-in-None
returns-in-None c = decided_new _ c.eval.ensures c.in-None.is c.variable.ensures c.positive.ensures c.decide.ensures

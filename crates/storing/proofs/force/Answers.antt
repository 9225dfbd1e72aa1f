use borrow.Author.Rules.{rules}
use Rattle.decision_tracker.proofs.Laws.{literal_free}
use Rattle.storing.proofs.Setting.{force_sets, force_decided}
use Rattle.storing.proofs.force.Goals as goal

pub decide-state-requires-clause-free : goal.decide-state-requires-clause-free
decide-state-requires-clause-free c = search (rules, literal_free)

pub returns-in-None : goal.returns-in-None
returns-in-None c = search (rules, force_sets)

pub returns-in-Some : goal.returns-in-Some
returns-in-Some c = search (rules, force_decided)

-- `serving::serve_drawn` serves the requirement of a drawn entry for its one disjunct.
use Rattle.serving.proofs.Tasks.{long_entries}
use Rattle.serving.proofs.Fired.{drawn_below, drawn_given, drawn_served}
use Rattle.serving.proofs.serve_drawn.Goals as goal

pub drawn_at-entry-requires : goal.drawn_at-entry-requires
drawn_at-entry-requires c = (long_entries c.requires.long_enough_2, c.requires.number_nonzero.1, c.requires.number_nonzero.2)

pub serve_flagged-requires-clause-q_lt_requirements : goal.serve_flagged-requires-clause-q_lt_requirements
serve_flagged-requires-clause-q_lt_requirements c = (drawn_below _ _ _ _ _ c.requires.task_given c.drawn_at-entry.ensures, c.requires.number_nonzero.0)

pub serve_flagged-requires-clause-given_indices : goal.serve_flagged-requires-clause-given_indices
serve_flagged-requires-clause-given_indices c = drawn_given _ c.requires.task_given c.drawn_at-entry.ensures

pub returns-clause-clauses_alike : goal.returns-clause-clauses_alike
returns-clause-clauses_alike c = drawn_served _ _ _ _ c.drawn_at-entry.ensures c.serve_flagged.ensures.clauses_alike

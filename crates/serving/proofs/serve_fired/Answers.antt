-- `serving::serve_fired` serves a requirement for the disjuncts that hold now.
use Rattle.handling.proofs.Owning.{without, with_one}
use Rattle.serving.proofs.Fired.{none_given, held_without, held_listed, held_given, fired_served}
use Rattle.serving.proofs.serve_fired.Goals as goal

pub serve_flagged-requires-clause-given_indices : goal.serve_flagged-requires-clause-given_indices
serve_flagged-requires-clause-given_indices c = none_given

pub returns-in-None-clause-clauses_alike : goal.returns-in-None-clause-clauses_alike
returns-in-None-clause-clauses_alike c = fired_served _ _ (held_without _ _ _ (without _ _ _ _ _ _ c.requirement_at-it.ensures c.in-None.is)) c.serve_flagged.ensures.clauses_alike

pub judged-fired-requires-clause-mapped : goal.judged-fired-requires-clause-mapped
judged-fired-requires-clause-mapped c = (c.requires.good.state.mapped, c.requires.good.state.kept)

pub judged-fired-requires-clause-q_lt_requirements : goal.judged-fired-requires-clause-q_lt_requirements
judged-fired-requires-clause-q_lt_requirements c = (c.requires.q_lt_requirements.0, with_one _ _ _ _ _ _ c.requirement_at-it.ensures _ c.in-Some.is)

pub serve_flagged-requires-in-Some-clause-given_indices : goal.serve_flagged-requires-in-Some-clause-given_indices
serve_flagged-requires-in-Some-clause-given_indices c = held_given _ _ _ c.as_slice.ensures c.judged-fired.ensures

pub returns-in-Some-clause-clauses_alike : goal.returns-in-Some-clause-clauses_alike
returns-in-Some-clause-clauses_alike c = fired_served _ _ (held_listed _ _ _ c.as_slice.ensures c.judged-fired.ensures) c.serve_flagged-in-Some.ensures.clauses_alike

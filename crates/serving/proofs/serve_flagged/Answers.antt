-- `serving::serve_flagged` serves a requirement's task; its goal's candidates are not named again where the flag says that they are settled.
use Rattle.serving.proofs.Flags.{flag_settles, flagged_more}
use Rattle.serving.proofs.serve_flagged.Goals as goal

pub serve_requirement-requires-clause-settles : goal.serve_requirement-requires-clause-settles
serve_requirement-requires-clause-settles c = λ e. flag_settles _ _ c.goal_place-i.ensures.1 c.requires.flagged e

pub returns-clause-flagged_2 : goal.returns-clause-flagged_2
returns-clause-flagged_2 c = flagged_more _ _ _ _ c.goal_place-i.ensures.1 c.serve_requirement.ensures c.requires.good c.requires.flagged

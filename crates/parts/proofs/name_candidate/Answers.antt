-- `parts::name_candidate`: the same of a candidate, which is also opened if it is ready.
use Rattle.parts.proofs.Names.{candidate_named}
use Rattle.parts.proofs.name_candidate.Goals as goal

pub returns : goal.returns
returns c = candidate_named _ c.name_tracked.ensures c.open_ready.ensures

-- `names::serve_several` lists a name with several allowed.
use Rattle.names.proofs.Serving.{several_served_law, several_not}
use Rattle.names.proofs.serve_several.Goals as goal

pub returns-then-several_allowed : goal.returns-then-several_allowed
returns-then-several_allowed c = several_served_law _ _ _ _ _ c.several_allowed.ensures c.if-several_allowed.true c.push_several.ensures

pub returns-else-several_allowed : goal.returns-else-several_allowed
returns-else-several_allowed c = several_not _ _ _ _ _ c.several_allowed.ensures c.if-several_allowed.false

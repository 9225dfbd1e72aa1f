-- `names::name_parts`: the parts that a name's clauses are for get their variables.
use Rattle.names.proofs.Serving.{parts_named}
use Rattle.names.proofs.name_parts.Goals as goal

pub returns : goal.returns
returns c = parts_named _ c.requires.good c.serve_several.ensures c.name_locked.ensures c.name_each.ensures

-- `binary_encoding::link_if` links a variable that is one-of-name.
use Rattle.binary_encoding.proofs.Links.{link_one, link_none}
use Rattle.binary_encoding.proofs.link_if.Goals as goal

pub returns-in-One : goal.returns-in-One
returns-in-One c = link_one _ _ _ _ _ _ _ c.origin_at.ensures c.in-One.is c.any_clauses.ensures

pub returns-in_default : goal.returns-in_default
returns-in_default c = link_none _ _ _ _ _ _ _ c.origin_at.ensures c.in_default.not-One

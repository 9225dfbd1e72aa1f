-- `names::name_locked`: where a part is locked, it and the others get their variables.
use Rattle.names.proofs.Locked.{locked_named, locked_none}
use Rattle.names.proofs.name_locked.Goals as goal

pub returns-in-Some : goal.returns-in-Some
returns-in-Some c = locked_named _ _ _ _ _ c.requires.locked_value c.in-Some.is c.name_each.ensures c.name_each-in-Some.ensures

pub returns-in-None : goal.returns-in-None
returns-in-None c = locked_none _ _ _ _ _ c.requires.locked_value c.in-None.is

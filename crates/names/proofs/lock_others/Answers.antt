-- `names::lock_others`: where a part is locked, the others are locked out.
use Rattle.names.proofs.Locked.{others_known, locks_added, locks_none}
use Rattle.names.proofs.lock_others.Goals as goal

pub add_each-requires-clause-known_unless_full : goal.add_each-requires-clause-known_unless_full
add_each-requires-clause-known_unless_full c = others_known _ _ _ _ _ c.requires.locked_value c.in-Some.is c.requires.known_unless_full

pub returns-in-Some : goal.returns-in-Some
returns-in-Some c = locks_added _ _ _ _ _ c.requires.locked_value _ c.in-Some.is c.add_each.ensures

pub returns-in-None : goal.returns-in-None
returns-in-None c = locks_none _ _ _ _ _ c.requires.locked_value _ c.in-None.is

-- `listing::entry_under` prints the line of an entry under its condition. The disjunct is one of the condition's, since the entry is given.
use mathlib.Core.Path.{refl}
use Rattle.goals.proofs.Decided.{carried}
use Rattle.listing.proofs.Waiting.{entry_disjunct, disjunct_there, under}
use Rattle.listing.proofs.entry_under.Goals as goal

pub disjunct_of-disjunct-requires-clause-given : goal.disjunct_of-disjunct-requires-clause-given
disjunct_of-disjunct-requires-clause-given c = rw c.conditions.ensures c.requires.c_lt_conditions.0

pub disjunct_of-disjunct-requires-clause-there : goal.disjunct_of-disjunct-requires-clause-there
disjunct_of-disjunct-requires-clause-there c = disjunct_there _ _ c.conditions.ensures (entry_disjunct _ _ _ _ _ _ c.requires.c_lt_conditions.1 c.requires.all_given)

pub returns : goal.returns
returns c =
    under _ _ _ _ _ _ c.requirement_at-requirement.ensures _ (carried _ _ c.conditions.ensures refl c.disjunct_of-disjunct.ensures) c.requires.c_lt_conditions.1
    c.entry_line.ensures

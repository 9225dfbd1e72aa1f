-- `owners::open_constraint` opens the name of an owner's constraint.
use Rattle.owners.proofs.Records.{constrained_range, open_elsewhere, open_here}
use Rattle.owners.proofs.open_constraint.Goals as goal

pub returns-then-eq : goal.returns-then-eq
returns-then-eq c = open_here _ _ _ _ _ _ c.constraint_at-it.ensures _ _ c.eq.ensures c.if-eq.true c.open_range.ensures

pub returns-else-eq : goal.returns-else-eq
returns-else-eq c = open_elsewhere _ _ _ _ _ _ c.constraint_at-it.ensures _ _ c.eq.ensures c.if-eq.false

pub open_range-requires-clause-r_lt_ranges : goal.open_range-requires-clause-r_lt_ranges
open_range-requires-clause-r_lt_ranges c = constrained_range _ _ _ _ _ _ c.constraint_at-it.ensures c.args.catalogue.now.formed c.requires.i_lt_constraints

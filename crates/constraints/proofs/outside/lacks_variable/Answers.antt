-- `constraints::outside::lacks_variable` is `lacks`.
use borrow.Author.Rules.{rules}
use Rattle.parts.proofs.Names.{part_fits}
use native.Mathlib.Omega.{arith}
use Rattle.constraints.proofs.OutsideLaws.{lacks_not, lacks_chosen}
use Rattle.constraints.proofs.outside.lacks_variable.Goals as goal

pub variable-requires-clause-origin_value : goal.variable-requires-clause-origin_value
variable-requires-clause-origin_value c = part_fits _ (omega (arith, c.requires.mapped.1, c.args.index.now.areas.held.laid.parts))

pub returns-else-is_none : goal.returns-else-is_none
returns-else-is_none c = search (rules, lacks_not)

pub returns-then-is_none : goal.returns-then-is_none
returns-then-is_none c = search (rules, lacks_chosen)

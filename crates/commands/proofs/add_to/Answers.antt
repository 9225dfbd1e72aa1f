-- `commands::add_to` adds the root or a part that is given, and refuses another.
use native.Mathlib.Omega.{arith}
use borrow.Author.Rules.{rules}
use Rattle.commands.proofs.Adding.{add_root, add_part, add_missing}
use Rattle.commands.proofs.add_to.Goals as goal

pub returns-in-Root : goal.returns-in-Root
returns-in-Root c = search (rules, add_root)

pub returns-then-part-counts : goal.returns-then-part-counts
returns-then-part-counts c = add_missing c.in-Part.ensures (omega arith)

pub returns-else-part-counts : goal.returns-else-part-counts
returns-else-part-counts c = search (rules, add_part)

-- `blocking::Blocking::blocks_by_shared` tells that no disjunct of a condition holds: a range that they share does not.
use borrow.Author.Rules.{rules}
use Rattle.blocking.proofs.Sharing.{first_blocks, second_blocks}
use Rattle.blocking.proofs.Blocking.blocks_by_shared.Goals as goal

pub returns-then-bar_shared : goal.returns-then-bar_shared
returns-then-bar_shared c = search (rules, first_blocks)

pub returns-else-bar_shared : goal.returns-else-bar_shared
returns-else-bar_shared c = search (rules, second_blocks)

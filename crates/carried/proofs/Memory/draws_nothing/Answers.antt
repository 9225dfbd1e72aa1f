-- `carried::Memory::draws_nothing` tells that a draw changes nothing: the condition is flagged, or no disjunct of it holds.
use borrow.Author.Rules.{rules}
use Rattle.carried.proofs.Blocking.{blocks_same, idles_flagged, idles_given, idles_later, idles_not}
use Rattle.carried.proofs.Memory.draws_nothing.Goals as goal

pub returns-then-is_flagged-clause-idles : goal.returns-then-is_flagged-clause-idles
returns-then-is_flagged-clause-idles c = search (rules, idles_flagged)

pub returns-then-c-conditions-clause-idles : goal.returns-then-c-conditions-clause-idles
returns-then-c-conditions-clause-idles c = search (rules, idles_not)

pub returns-then-blocks_by_shared-clause-idles : goal.returns-then-blocks_by_shared-clause-idles
returns-then-blocks_by_shared-clause-idles c = search (rules, blocks_same, idles_given)

pub returns-else-blocks_by_shared-clause-idles : goal.returns-else-blocks_by_shared-clause-idles
returns-else-blocks_by_shared-clause-idles c =
    idles_later _ _ _ _ _ (search rules) (blocks_same c.assignment-assignment.ensures c.blocks_by_shared.ensures)
    (blocks_same c.assignment-assignment.ensures c.blocks-else-blocks_by_shared.ensures.blocks)

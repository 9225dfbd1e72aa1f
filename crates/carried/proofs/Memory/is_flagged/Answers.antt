-- `carried::Memory::is_flagged` tells that a condition is flagged, or blocked, or that a range is that its disjuncts share.
use borrow.Author.Rules.{rules}
use Rattle.carried.proofs.Blocking.{blocked_in}
use Rattle.carried.proofs.Memory.is_flagged.Goals as goal

pub returns-then-self-c : goal.returns-then-self-c
returns-then-self-c c = rw c.if-self-c.true (search (rules, blocked_in))

-- `blocking::Blocking::release_range` unblocks a range that has the part.
use borrow.Author.Rules.{rules}
use Rattle.blocking.proofs.Releasing.{release_member}
use Rattle.blocking.proofs.Blocking.release_range.Goals as goal

pub returns-then-marked : goal.returns-then-marked
returns-then-marked c = search (rules, release_member)

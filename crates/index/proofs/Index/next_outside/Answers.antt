-- `next_outside` passes parts of other names alone.
use borrow.Author.Rules.{rules}
use Rattle.index.proofs.Selecting.{skips_outside}
use Rattle.index.proofs.Index.next_outside.Goals as goal

pub returns : goal.returns
returns c = search (rules, skips_outside)

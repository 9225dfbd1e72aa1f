use borrow.Author.Rules.{rules}
use Rattle.storing.proofs.Added.{lock_added}
use Rattle.reporting.proofs.add_lock.Goals as goal

pub returns : goal.returns
returns c = search (rules, lock_added)

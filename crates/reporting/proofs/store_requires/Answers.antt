use borrow.Author.Rules.{rules}
use Rattle.storing.proofs.Added.{requires_stored}
use Rattle.reporting.proofs.store_requires.Goals as goal

pub returns : goal.returns
returns c = search (rules, requires_stored)

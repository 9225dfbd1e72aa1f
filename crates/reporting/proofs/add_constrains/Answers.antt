use borrow.Author.Rules.{rules}
use Rattle.storing.proofs.Added.{constrains_added}
use Rattle.reporting.proofs.add_constrains.Goals as goal

pub returns : goal.returns
returns c = search (rules, constrains_added)

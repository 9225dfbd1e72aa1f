use borrow.Author.Rules.{rules}
use Rattle.storing.proofs.Added.{aux_owner_added}
use Rattle.reporting.proofs.add_aux_owner.Goals as goal

pub returns : goal.returns
returns c = search (rules, aux_owner_added)

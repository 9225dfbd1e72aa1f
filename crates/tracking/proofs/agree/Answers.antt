-- `tracking::agree` adds one clause of a part and a helper.
use borrow.Author.Rules.{rules}
use Rattle.storing.proofs.Added.{made_exists}
use Rattle.tracking.proofs.Parts.{agree_added}
use Rattle.tracking.proofs.agree.Goals as goal

pub add_forbid-requires-clause-number_nonzero : goal.add_forbid-requires-clause-number_nonzero
add_forbid-requires-clause-number_nonzero c = (search rules, search rules, search (rules, made_exists))

pub returns : goal.returns
returns c = search (rules, agree_added)

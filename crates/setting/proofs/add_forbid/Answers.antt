use borrow.Author.Rules.{rules}
use Rattle.storing.proofs.Added.{forbid_can, forbid_added}
use Rattle.setting.proofs.add_forbid.Goals as goal

pub add_pair-requires-clause-can_pair : goal.add_pair-requires-clause-can_pair
add_pair-requires-clause-can_pair c = search (rules, forbid_can)

pub returns : goal.returns
returns c = search (rules, forbid_added)

use borrow.Author.Rules.{rules}
use Rattle.listing.proofs.Linking.{linked_none, linked_on, linked_all}
use Rattle.listing.proofs.chains.Chains.link_entries.Goals as goal

pub loop-i-init : goal.loop-i-init
loop-i-init c = search (rules, linked_none)

pub link_entry-requires-clause-linked : goal.link_entry-requires-clause-linked
link_entry-requires-clause-linked c = (search (rules, linked_on), search rules)

pub returns : goal.returns
returns c = search (rules, linked_all)

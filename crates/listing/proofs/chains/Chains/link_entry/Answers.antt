-- `listing::chains::Chains::link_entry` puts entry i before those that are linked.
use borrow.Author.Rules.{rules}
use Rattle.listing.proofs.Linking.{linked_more}
use Rattle.listing.proofs.chains.Chains.link_entry.Goals as goal

pub returns : goal.returns
returns c = search (rules, linked_more)

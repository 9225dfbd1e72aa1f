-- `listing::chains::key` gives the condition of entry i, which is one of the catalogue since the entry is given.
use Rattle.listing.proofs.Linking.{has_condition, entry_key}
use Rattle.listing.proofs.chains.key.Goals as goal

pub unwrap-requires : goal.unwrap-requires
unwrap-requires c = has_condition _ _ _ _ _ _ _ _ _ _ c.requirement_at-requirement.ensures c.waiting_at-entry.ensures c.requires.all_given c.requires.i_lt_waiting

pub returns : goal.returns
returns c =
    entry_key _ _ _ _ _ _ _ _ _ _ c.requirement_at-requirement.ensures c.waiting_at-entry.ensures c.requires.all_given c.requires.i_lt_waiting c.args.catalogue.now.formed _
    c.unwrap.ensures

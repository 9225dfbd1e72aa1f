-- `blocking::Listing::new` lists nothing.
use Rattle.blocking.proofs.Lists.{nothing_listed}
use Rattle.blocking.proofs.Listing.new.Goals as goal

pub returns : goal.returns
returns c = nothing_listed

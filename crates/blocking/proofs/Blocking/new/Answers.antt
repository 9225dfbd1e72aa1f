-- `blocking::Blocking::new` blocks and watches nothing.
use Rattle.blocking.proofs.Blocked.{nothing_blocked}
use Rattle.blocking.proofs.Blocking.new.Goals as goal

pub returns : goal.returns
returns c = nothing_blocked

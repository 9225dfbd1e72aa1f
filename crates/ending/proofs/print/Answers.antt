-- `ending::print` measures the listing and writes it if it fits.
use mathlib.Core.Path.{refl}
use Rattle.beginning.proofs.Held.{reaches_given}
use Rattle.ending.proofs.Ending.{no_room, printed_out}
use Rattle.ending.proofs.print.Goals as goal

pub write-requires-clause-all_given : goal.write-requires-clause-all_given
write-requires-clause-all_given c = reaches_given c.requires.reaches

pub returns-then-room-length : goal.returns-then-room-length
returns-then-room-length c = no_room refl c.measure-length.ensures c.if-room-length.true

pub returns : goal.returns
returns c = printed_out refl c.measure-length.ensures c.if-room-length.false refl c.write.ensures

-- `ending::measure` lends an empty area.
use Rattle.beginning.proofs.Held.{reaches_given}
use Rattle.ending.proofs.measure.Goals as goal

pub write-requires-clause-all_given : goal.write-requires-clause-all_given
write-requires-clause-all_given c = reaches_given c.requires.reaches

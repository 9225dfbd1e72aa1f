-- `binary_encoding::note_joiners` flags the names of the named parts that are not tracked. The invariant: those of the first i are flagged.
use Rattle.encoder.specs.Does.{regions_of}
use Rattle.binary_encoding.specs.Joiners.{JoinersNoted}
use Rattle.binary_encoding.proofs.note_joiners.Given as goal

abbrev pub invariant-loop-i : goal.invariant-loop-i
invariant-loop-i l = JoinersNoted l.tables.counts l.tables.area.now l.state.used.named (regions_of l.state) l.i l.joiners

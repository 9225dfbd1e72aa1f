-- `binary_encoding::gather_names` gathers the flagged names of the named parts. The invariant: what is left of the list's making is the whole of it.
use Rattle.binary_encoding.proofs.Track.{Gathering}
use Rattle.binary_encoding.proofs.gather_names.Given as goal

abbrev pub invariant-loop-i : goal.invariant-loop-i
invariant-loop-i l = Gathering l.tables.counts l.tables.area.now l.joiners l.initial.state l.state l.count l.i

-- `binary_encoding::join_names` lets the named parts of the names at hand join. The invariant: those of the first i names did.
use Rattle.binary_encoding.proofs.Names.{Naming}
use Rattle.binary_encoding.proofs.join_names.Given as goal

abbrev pub invariant-loop-i : goal.invariant-loop-i
invariant-loop-i l = Naming l.tables.counts l.tables.area.now l.run l.names l.initial.state l.initial.clauses l.state l.clauses l.i

-- `binary_encoding::join_name` lets the named parts of one name join. The invariant: the first i did.
use Rattle.binary_encoding.proofs.Names.{Parting}
use Rattle.binary_encoding.proofs.join_name.Given as goal

abbrev pub invariant-loop-i : goal.invariant-loop-i
invariant-loop-i l = Parting l.tables.counts l.tables.area.now l.run l.name l.initial.state l.initial.clauses l.state l.clauses l.i

-- `link_all` links the rows of a chain, last to first. The invariant: those from row i on are linked.
use Rattle.index.proofs.Steps.{LinkedFrom}
use Rattle.index.proofs.building.Building.link_all.Given as goal

abbrev pub invariant-loop-i : goal.invariant-loop-i
invariant-loop-i g l = LinkedFrom g.C.Chain.chain g.C.Chain.rows g.C.Chain.keys l.initial.self l.self l.i

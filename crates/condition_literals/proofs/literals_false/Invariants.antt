-- `condition_literals::literals_false` tells whether the literals at hand are all decided false. The invariant: they are if those from place j on are.
use Rattle.encoder.specs.Does.{regions_of, decisions_of}
use Rattle.condition_literals.proofs.Falsified.{Falsifying}
use Rattle.condition_literals.proofs.literals_false.Given as goal

abbrev pub invariant-loop-j : goal.invariant-loop-j
invariant-loop-j l = Falsifying (decisions_of l.state) (regions_of l.state 19) l.state.used.literals l.count l.j

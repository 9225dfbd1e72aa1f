-- `handling::add_gate` adds the clause of a gate that is new.
use Rattle.handling.proofs.Owning.{its_goal}
use Rattle.handling.proofs.Adding.{gate_old, gate_added}
use Rattle.handling.proofs.add_gate.Goals as goal

pub returns-then-new : goal.returns-then-new
returns-then-new c = gate_added _ _ c.if-new.true (its_goal _ _ _ _ _ _ c.requirement_at-it.ensures) c.requires.named c.requires.found c.rest_false-all.ensures c.add_gated.ensures

pub returns-else-new : goal.returns-else-new
returns-else-new c = gate_old _ _ c.if-new.false

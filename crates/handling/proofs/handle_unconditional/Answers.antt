-- `handling::handle_unconditional` adds the clauses of an unconditional requirement, by its shape.
use Rattle.handling.proofs.Owning.{root_direct, few_direct, many_gate}
use Rattle.handling.proofs.Steps.{directly, by_a_gate}
use Rattle.handling.proofs.handle_unconditional.Goals as goal
use Rattle.handling.proofs.handle_unconditional.Goals.{then-eq-via-then-eq, then-eq-via-else-eq+then-count-lt4}

pub returns-then-eq : goal.returns-then-eq
returns-then-eq c =
    elim c.then-eq.branch [
      | then-eq-via-then-eq w ↦ directly _ _ _ (root_direct _ _ _ _ _ _ c.requirement_at-it.ensures c.requires.q_lt_requirements.2 _ c.eq.ensures w.if-eq.true) c.add_direct.ensures
      | then-eq-via-else-eq+then-count-lt4 w ↦
          directly _ _ _ (few_direct _ _ _ _ _ _ c.requirement_at-it.ensures c.requires.q_lt_requirements.2 _ w.count.ensures w.if-count-lt4.true) c.add_direct.ensures
    ]

pub returns : goal.returns
returns c = by_a_gate _ _ _ (many_gate _ _ _ _ _ _ c.requirement_at-it.ensures c.requires.q_lt_requirements.2 _ c.eq.ensures c.if-eq.false _ c.count.ensures c.if-count-lt4.false) c.add_through_gate.ensures

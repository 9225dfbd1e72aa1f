use native.Mathlib.Omega.{arith}
use Rattle.index.proofs.Steps.{linked_start, linked_keyed, linked_ready, linked_below, linked_step, linked_end, linked_others}
use Rattle.index.proofs.building.Building.link_all.Goals as goal

pub loop-i-init : goal.loop-i-init
loop-i-init g c = linked_start c.start.ensures.others c.start.ensures.heading c.rows-i.ensures

pub link-requires-clause-keyed : goal.link-requires-clause-keyed
link-requires-clause-keyed g c = linked_keyed c.start.ensures.others c.start.ensures.heading g.met.C.Chain.placed c.requires c.loop-i.invariant

pub link-requires-clause-linked : goal.link-requires-clause-linked
link-requires-clause-linked g c = linked_ready _ c.loop-i.invariant (omega arith)

pub link-requires-clause-i_in_bounds : goal.link-requires-clause-i_in_bounds
link-requires-clause-i_in_bounds g c = linked_below c.loop-i.invariant (omega arith)

pub loop-i-preserved : goal.loop-i-preserved
loop-i-preserved g c = linked_step c.loop-i.invariant c.link.ensures.linking c.link.ensures.others

pub returns-clause-linking : goal.returns-clause-linking
returns-clause-linking g c = linked_end c.start.ensures.others c.start.ensures.heading c.loop-i.invariant (omega arith)

pub returns-clause-others : goal.returns-clause-others
returns-clause-others g c = linked_others c.start.ensures.others c.start.ensures.heading c.loop-i.invariant

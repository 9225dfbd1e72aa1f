-- `chain_tables` makes the chains one after another; each leaves the others.
use Rattle.index.proofs.Steps.{requirements_keyed_now, constraints_keyed_now, parts_keyed_now, parts_linked_now, chained_now}
use Rattle.index.proofs.building.Building.chain_tables.Goals as goal

pub link_all-requires-2 : goal.link_all-requires-2
link_all-requires-2 c = requirements_keyed_now c.requires c.link_all.ensures.others c.link_all.ensures.linking

pub link_all-requires-3 : goal.link_all-requires-3
link_all-requires-3 c = constraints_keyed_now c.requires c.link_all.ensures.others c.link_all-2.ensures.others c.link_all.ensures.linking c.link_all-2.ensures.linking

pub bound_parts-requires : goal.bound_parts-requires
bound_parts-requires c =
    parts_keyed_now c.requires c.link_all.ensures.others c.link_all-2.ensures.others c.link_all-3.ensures.others c.link_all.ensures.linking c.link_all-2.ensures.linking
    c.link_all-3.ensures.linking c.bound_ranges.ensures.others c.bound_ranges.ensures.bounding

pub note_non_matching-requires : goal.note_non_matching-requires
note_non_matching-requires c =
    parts_linked_now c.requires c.link_all.ensures.others c.link_all-2.ensures.others c.link_all-3.ensures.others c.link_all.ensures.linking c.link_all-2.ensures.linking
    c.link_all-3.ensures.linking c.bound_ranges.ensures.others c.bound_ranges.ensures.bounding c.bound_parts.ensures.others c.bound_parts.ensures.favouring

pub returns-clause-chained : goal.returns-clause-chained
returns-clause-chained c =
    chained_now c.requires c.link_all.ensures.others c.link_all-2.ensures.others c.link_all-3.ensures.others c.link_all.ensures.linking c.link_all-2.ensures.linking
    c.link_all-3.ensures.linking c.bound_ranges.ensures.others c.bound_ranges.ensures.bounding c.bound_parts.ensures.others c.bound_parts.ensures.favouring
    c.note_non_matching.ensures.noting

use Rattle.std.proofs.Common.{refl, rules}
use Rattle.judging.proofs.Judging.{range_asked, leaf_works, and_room, and_works, or_room, or_works}
use Rattle.judging.proofs.Known.+work_out.Goals as goal

pub range-v-requires : goal.range-v-requires
range-v-requires t c = range_asked _ _ _ _ _ c.requires c.in-Range.ensures

pub returns-in-Range : goal.returns-in-Range
returns-in-Range t c = leaf_works _ _ _ _ _ c.requires c.in-Range.ensures _ c.range-v.ensures (search rules) c.leaf_row.ensures

pub and_row-requires : goal.and_row-requires
and_row-requires t c = and_room _ _ _ _ _ c.requires c.in-And.ensures c.work_out.ensures c.work_out-in-And.ensures c.row.ensures.count c.row-in-And.ensures.count c.row.ensures.verdicts c.row-in-And.ensures.verdicts refl

pub returns-in-And : goal.returns-in-And
returns-in-And t c = and_works _ _ _ _ _ c.requires c.in-And.ensures c.work_out.ensures c.work_out-in-And.ensures c.row.ensures.count c.row-in-And.ensures.count c.row.ensures.verdicts c.row-in-And.ensures.verdicts refl (search rules) _ c.and_row.ensures

pub or_row-requires : goal.or_row-requires
or_row-requires t c = or_room _ _ _ _ _ c.requires c.in-Or.ensures c.work_out-in-Or.ensures c.work_out-in-Or-2.ensures c.row-in-Or.ensures.count c.row-in-Or-2.ensures.count c.row-in-Or.ensures.verdicts c.row-in-Or-2.ensures.verdicts refl

pub returns-in-Or : goal.returns-in-Or
returns-in-Or t c = or_works _ _ _ _ _ c.requires c.in-Or.ensures c.work_out-in-Or.ensures c.work_out-in-Or-2.ensures c.row-in-Or.ensures.count c.row-in-Or-2.ensures.count c.row-in-Or.ensures.verdicts c.row-in-Or-2.ensures.verdicts refl (search rules) _ c.or_row.ensures

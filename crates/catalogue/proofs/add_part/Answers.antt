use Rattle.std.proofs.Common.{rules}
use Rattle.rules.specs.Bytes.{byte_at}
use Rattle.reader.specs.Reading.{item_read}
use Rattle.catalogue.proofs.add_part.Goals as goal

pub returns-clause-entered : goal.returns-clause-entered
unfolding byte_at item_read
returns-clause-entered c =
    let d = c.args.draft.now in
    let e = c.add_part_knowing.ensures.entered d.members.now.count d.marks.now.area.now d.members.now.area.now in
    search rules

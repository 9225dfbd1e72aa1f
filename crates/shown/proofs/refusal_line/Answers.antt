-- `refusal_line`: its four pieces are the line of the definitions, and it fits.
use native.Mathlib.Omega.{arith}
use Rattle.text.proofs.Writing.{same_reference}
use Rattle.shown.proofs.Laws.{refusal_is}
use Rattle.shown.proofs.refusal_line.Goals as goal

pub returns : goal.returns
returns c =
    let a = same_reference c.word.ensures in
    let b = same_reference c.field_number.ensures in
    let d = same_reference c.field_number-2.ensures in
    let e = same_reference c.line_feed.ensures in
    let new = c.new-writer.ensures in
    refusal_is _ _ c.ranges.number.fits c.ranges.place.fits _ c.requires new.start new.room new.area (grind arith) c.word.ensures c.field_number.ensures c.field_number-2.ensures c.line_feed.ensures

use borrow.Author.Rules.{rules}
use Rattle.binary_encoding.proofs.Track.{gather_start, gather_low, gather_step, gather_end}
use Rattle.binary_encoding.proofs.gather_names.Goals as goal

pub loop-i-init : goal.loop-i-init
loop-i-init c = search (rules, gather_start)

pub note_name-count-requires : goal.note_name-count-requires
note_name-count-requires c = search (rules, gather_low)

pub loop-i-preserved : goal.loop-i-preserved
loop-i-preserved c = search (rules, gather_step)

pub returns : goal.returns
returns c = search (rules, gather_end)

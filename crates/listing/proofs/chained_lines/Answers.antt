use borrow.Author.Rules.{rules}
use Rattle.line_fields.proofs.Printing.{printing_start, printing_step, printing_end}
use Rattle.listing.proofs.chained_lines.Goals as goal

pub loop-c-init : goal.loop-c-init
loop-c-init c = search (rules, printing_start)

pub loop-c-preserved : goal.loop-c-preserved
loop-c-preserved c = search (rules, printing_step)

pub returns : goal.returns
returns c = search (rules, printing_end)

use borrow.Author.Rules.{rules}
use Rattle.line_fields.proofs.Printing.{printing_start, printing_step}
use Rattle.line_fields.proofs.Numbers.{number_text_law, numbers_end}
use Rattle.line_fields.proofs.disjunct_fields.Goals as goal

pub loop-range-init : goal.loop-range-init
loop-range-init c = search (rules, printing_start)

pub loop-range-preserved : goal.loop-range-preserved
loop-range-preserved c = search (rules, printing_step, number_text_law)

pub returns : goal.returns
returns c = search (rules, numbers_end)

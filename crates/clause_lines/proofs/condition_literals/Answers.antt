use borrow.Author.Rules.{rules}
use Rattle.line_fields.proofs.Printing.{printing_start, printing_step, printing_end}
use Rattle.line_fields.proofs.Numbers.{literals_end}
use Rattle.clause_lines.proofs.condition_literals.Goals as goal

pub loop-j-init : goal.loop-j-init
loop-j-init c = search (rules, printing_start)

pub loop-j-preserved : goal.loop-j-preserved
loop-j-preserved c = search (rules, printing_step)

pub returns : goal.returns
returns c = search (rules, literals_end, printing_end)

use borrow.Author.Rules.{rules}
use Rattle.line_fields.proofs.Printing.{printing_start, printing_step, printing_end, printing_over}
use Rattle.clause_lines.proofs.Copying.{stand_start}
use Rattle.clause_lines.proofs.clause_lines.Goals as goal

pub loop-i-init : goal.loop-i-init
loop-i-init c = (search (rules, printing_start), search (rules, stand_start))

pub returns-then-is_over : goal.returns-then-is_over
returns-then-is_over c = search (rules, printing_over)

pub loop-i-preserved : goal.loop-i-preserved
loop-i-preserved c = (search (rules, printing_step), search rules)

pub returns : goal.returns
returns c = search (rules, printing_end)

use borrow.Author.Rules.{rules}
use Rattle.clause_lines.proofs.Parts.{chosen_first, chosen_next, chosen_end}
use Rattle.clause_lines.proofs.chosen_literals.Goals as goal

pub loop-p-init : goal.loop-p-init
loop-p-init c = (search (rules, chosen_first), search rules)

pub loop-p-preserved : goal.loop-p-preserved
loop-p-preserved c = (search (rules, chosen_next), search rules)

pub returns : goal.returns
returns c = search (rules, chosen_end)

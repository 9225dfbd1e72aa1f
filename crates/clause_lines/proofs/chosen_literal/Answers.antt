-- `clause_lines::chosen_literal` prints the literal of a part that is chosen, and nothing for another. A chosen part has a variable.
use borrow.Author.Rules.{rules}
use Rattle.opening.proofs.Variables.{looked_is}
use Rattle.clause_lines.proofs.Parts.{part_in_tables, chosen_yes, chosen_no}
use Rattle.clause_lines.proofs.chosen_literal.Goals as goal

pub variable-requires-clause-origin_value : goal.variable-requires-clause-origin_value
variable-requires-clause-origin_value c = part_in_tables _ _ _ _ _ c.args.catalogue.now.indexed c.requires.p_lt_parts

pub returns-then-chosen : goal.returns-then-chosen
returns-then-chosen c = search (rules, chosen_yes, looked_is)

pub returns-else-chosen : goal.returns-else-chosen
returns-else-chosen c = search (rules, chosen_no)

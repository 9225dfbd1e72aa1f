-- `clause_lines::clause_line` prints the line of clause i.
use borrow.Author.Rules.{rules}
use Rattle.clause_lines.proofs.Clauses.{clause_line}
use Rattle.clause_lines.proofs.Copying.{stand_still}
use Rattle.clause_lines.proofs.clause_line.Goals as goal

pub row_fields-requires-clause-spans : goal.row_fields-requires-clause-spans
row_fields-requires-clause-spans c = stand_still c.field_number.ensures (stand_still c.put.ensures c.requires.spans)

pub returns-clause-wrote : goal.returns-clause-wrote
returns-clause-wrote c = search (rules, clause_line)

pub returns-clause-spans_2 : goal.returns-clause-spans_2
returns-clause-spans_2 c = search (rules, stand_still)

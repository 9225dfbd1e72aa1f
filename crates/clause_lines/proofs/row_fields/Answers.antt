-- `clause_lines::row_fields` prints the fields of row i, which is sound.
use borrow.Author.Rules.{rules}
use Rattle.clause_lines.proofs.Clauses.{row_sound, row_fields}
use Rattle.clause_lines.proofs.row_fields.Goals as goal

pub clause_fields-requires-clause-sound : goal.clause_fields-requires-clause-sound
clause_fields-requires-clause-sound c = search (rules, row_sound)

pub returns-clause-wrote : goal.returns-clause-wrote
returns-clause-wrote c = search (rules, row_fields)

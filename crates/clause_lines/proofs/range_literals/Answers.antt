-- `clause_lines::range_literals` prints the literals of a range: the favoured part first.
use borrow.Author.Rules.{rules}
use Rattle.clause_lines.proofs.Parts.{known_favoured, known_others, sorted_text}
use Rattle.clause_lines.proofs.range_literals.Goals as goal

pub chosen_literals-requires-clause-all_known : goal.chosen_literals-requires-clause-all_known
chosen_literals-requires-clause-all_known c = search (rules, known_favoured)

pub chosen_literals-requires-2-clause-all_known : goal.chosen_literals-requires-2-clause-all_known
chosen_literals-requires-2-clause-all_known c = search (rules, known_others)

pub returns : goal.returns
returns c = search (rules, sorted_text)

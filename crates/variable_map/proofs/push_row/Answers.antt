-- `variable_map::push_row` stores one row more behind the n rows.
use borrow.Author.Rules.{rules}
use Rattle.variable_map.proofs.Laws.{row_pushed}
use Rattle.variable_map.proofs.push_row.Goals as goal

pub returns : goal.returns
returns c = search (rules, row_pushed)

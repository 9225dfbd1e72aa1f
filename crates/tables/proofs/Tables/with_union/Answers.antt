-- `with_union` counts one union more and changes nothing else.
use borrow.Author.Rules.{rules}
use Rattle.tables.proofs.Laws.{union_added}
use Rattle.tables.proofs.Tables.with_union.Goals as goal

pub returns : goal.returns
returns c = search (rules, union_added)

-- `push_range` stores a range more and changes nothing else.
use borrow.Author.Rules.{rules}
use Rattle.tables.proofs.Laws.{range_added}
use Rattle.tables.proofs.TablesMut.push_range.Goals as goal

pub returns-clause-added : goal.returns-clause-added
returns-clause-added c = search (rules, range_added)

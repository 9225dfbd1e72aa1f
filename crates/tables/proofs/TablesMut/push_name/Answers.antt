-- `push_name` stores a name more and changes nothing else.
use borrow.Author.Rules.{rules}
use Rattle.tables.proofs.Laws.{name_added}
use Rattle.tables.proofs.TablesMut.push_name.Goals as goal

pub returns-clause-added : goal.returns-clause-added
returns-clause-added c = search (rules, name_added)

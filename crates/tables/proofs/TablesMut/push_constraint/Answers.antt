-- `push_constraint` stores a constraint more and changes nothing else.
use borrow.Author.Rules.{rules}
use Rattle.tables.proofs.Laws.{constraint_added}
use Rattle.tables.proofs.TablesMut.push_constraint.Goals as goal

pub returns-clause-added : goal.returns-clause-added
returns-clause-added c = search (rules, constraint_added)

-- `push_requirement` stores a requirement more and changes nothing else.
use borrow.Author.Rules.{rules}
use Rattle.tables.proofs.Laws.{requirement_added}
use Rattle.tables.proofs.TablesMut.push_requirement.Goals as goal

pub returns-clause-added : goal.returns-clause-added
returns-clause-added c = search (rules, requirement_added)

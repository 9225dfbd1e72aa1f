-- `push_condition` stores a condition with its size more and changes nothing else.
use borrow.Author.Rules.{rules}
use Rattle.tables.proofs.Laws.{condition_added}
use Rattle.tables.proofs.TablesMut.push_condition.Goals as goal

pub returns-clause-added : goal.returns-clause-added
returns-clause-added c = search (rules, condition_added)

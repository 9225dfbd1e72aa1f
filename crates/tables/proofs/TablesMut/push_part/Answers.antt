-- `push_part` stores a part more and changes nothing else.
use borrow.Author.Rules.{rules}
use Rattle.tables.proofs.Laws.{part_added}
use Rattle.tables.proofs.TablesMut.push_part.Goals as goal

pub returns-clause-added : goal.returns-clause-added
returns-clause-added c = search (rules, part_added)

-- `state_lines::conflict_line` prints the line of a clause that was a conflict, and nothing for another.
use borrow.Author.Rules.{rules}
use Rattle.state_lines.proofs.Lines.{conflict_none, conflict_some}
use Rattle.state_lines.proofs.conflict_line.Goals as goal

pub returns-in-Some : goal.returns-in-Some
returns-in-Some c = search (rules, conflict_some)

pub returns-in_default : goal.returns-in_default
returns-in_default c = search (rules, conflict_none)

-- `state_lines::owner_line` prints the line of an opened owner.
use borrow.Author.Rules.{rules}
use Rattle.state_lines.proofs.Lines.{owner_line}
use Rattle.state_lines.proofs.owner_line.Goals as goal

pub returns : goal.returns
returns c = search (rules, owner_line)

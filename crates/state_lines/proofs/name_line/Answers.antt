-- `state_lines::name_line` prints the line of an opened name.
use borrow.Author.Rules.{rules}
use Rattle.state_lines.proofs.Lines.{name_line}
use Rattle.state_lines.proofs.name_line.Goals as goal

pub returns : goal.returns
returns c = search (rules, name_line)

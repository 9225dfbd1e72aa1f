-- `state_lines::variable_line` prints the line of a variable: its letter, its number, its origin and a line feed.
use borrow.Author.Rules.{rules}
use Rattle.state_lines.proofs.Lines.{variable_line}
use Rattle.state_lines.proofs.variable_line.Goals as goal

pub returns : goal.returns
returns c = search (rules, variable_line)

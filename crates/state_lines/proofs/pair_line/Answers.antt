-- `state_lines::pair_line` prints a letter and two numbers.
use borrow.Author.Rules.{rules}
use Rattle.state_lines.proofs.Lines.{pair_line}
use Rattle.state_lines.proofs.pair_line.Goals as goal

pub returns : goal.returns
returns c = search (rules, pair_line)

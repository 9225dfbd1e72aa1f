-- `state_lines::decision_line` prints the line of a decision.
use borrow.Author.Rules.{rules}
use Rattle.state_lines.proofs.Lines.{decision_line_law}
use Rattle.state_lines.proofs.decision_line.Goals as goal

pub returns : goal.returns
returns c = search (rules, decision_line_law)

-- `line_fields::goal_fields` prints a goal, a range or a union.
use borrow.Author.Rules.{rules}
use Rattle.line_fields.proofs.Fields.{goal_range, goal_union}
use Rattle.line_fields.proofs.goal_fields.Goals as goal

pub returns-in-Single : goal.returns-in-Single
returns-in-Single c = search (rules, goal_range)

pub returns-in-Union : goal.returns-in-Union
returns-in-Union c = search (rules, goal_union)

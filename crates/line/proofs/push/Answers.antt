-- `line::push` puts one task more at the end of the line.
use borrow.Author.Rules.{rules}
use Rattle.line.proofs.Line.{push_is}
use Rattle.line.proofs.push.Goals as goal

pub returns : goal.returns
returns c = search (rules, push_is)

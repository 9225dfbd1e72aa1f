-- `text::width` counts the digits.
use borrow.Author.Rules.{rules}
use Rattle.text.proofs.Laws.{width_is}
use Rattle.text.proofs.width.Goals as goal

pub returns : goal.returns
returns c = search (rules, width_is)

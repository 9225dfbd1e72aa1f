use borrow.Author.Rules.{rules}
use Rattle.text.proofs.Laws.{decimal_one, decimal_more}
use Rattle.text.proofs.Writer.+digit_by_digit.Goals as goal

pub returns-then-n-lt10 : goal.returns-then-n-lt10
returns-then-n-lt10 t c = search (rules, decimal_one)

pub returns-else-n-lt10 : goal.returns-else-n-lt10
returns-else-n-lt10 t c = search (rules, decimal_more)

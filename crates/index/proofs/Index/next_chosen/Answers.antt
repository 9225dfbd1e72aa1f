-- `next_chosen` passes none of the chosen parts.
use borrow.Author.Rules.{rules}
use Rattle.index.proofs.Selecting.{skips_favoured, skips_of_others}
use Rattle.index.proofs.Index.next_chosen.Goals as goal

pub returns-in-Favoured : goal.returns-in-Favoured
returns-in-Favoured c = search (rules, skips_favoured)

pub returns-in-Others : goal.returns-in-Others
returns-in-Others c = search (rules, skips_of_others)

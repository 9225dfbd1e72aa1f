-- `first_chosen` passes none of the chosen parts.
use borrow.Author.Rules.{rules}
use Rattle.index.proofs.Selecting.{skips_first, skips_matching, skips_favoured, skips_others}
use Rattle.index.proofs.Index.first_chosen.Goals as goal

pub returns-in-NonMatching : goal.returns-in-NonMatching
returns-in-NonMatching c = search (rules, skips_first)

pub returns-in-Matching : goal.returns-in-Matching
returns-in-Matching c = search (rules, skips_matching)

pub returns-in-Favoured : goal.returns-in-Favoured
returns-in-Favoured c = search (rules, skips_favoured)

pub returns-in-Others : goal.returns-in-Others
returns-in-Others c = search (rules, skips_others)

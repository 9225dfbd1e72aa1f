-- `Parts::next` passes none of these.
use borrow.Author.Rules.{rules}
use Rattle.parts.proofs.Selecting.{skips_chosen, skips_locked, skips_others, skips_excluded}
use Rattle.parts.proofs.Parts.next.Goals as goal

pub returns-in-Chosen : goal.returns-in-Chosen
returns-in-Chosen c = search (rules, skips_chosen)

pub returns-in-Locked : goal.returns-in-Locked
returns-in-Locked c = search (rules, skips_locked)

pub returns-in-Others : goal.returns-in-Others
returns-in-Others c = search (rules, skips_others)

pub returns-in-Excluded : goal.returns-in-Excluded
returns-in-Excluded c = search (rules, skips_excluded)

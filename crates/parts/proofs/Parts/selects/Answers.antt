-- `Parts::selects`: is a part one of these, by which they are?
use borrow.Author.Rules.{rules}
use Rattle.parts.proofs.Selecting.{selected_chosen, selected_locked, selected_others, selected_excluded}
use Rattle.parts.proofs.Parts.selects.Goals as goal

pub returns-in-Chosen : goal.returns-in-Chosen
returns-in-Chosen c = search (rules, selected_chosen)

pub returns-in-Locked : goal.returns-in-Locked
returns-in-Locked c = search (rules, selected_locked)

pub returns-in-Others : goal.returns-in-Others
returns-in-Others c = search (rules, selected_others)

pub returns-in-Excluded : goal.returns-in-Excluded
returns-in-Excluded c = search (rules, selected_excluded)

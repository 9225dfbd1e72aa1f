-- `form` gives a goal's form.
use borrow.Author.Rules.{rules}
use Rattle.requirement.proofs.Laws.{form_range, form_union}
use Rattle.requirement.proofs.Requirement.form.Goals as goal

pub returns-in-Single : goal.returns-in-Single
returns-in-Single c = search (rules, form_range)

pub returns-in-Union : goal.returns-in-Union
returns-in-Union c = search (rules, form_union)

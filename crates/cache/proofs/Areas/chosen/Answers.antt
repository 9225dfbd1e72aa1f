-- `chosen` says whether part p is of the range's name and asked for.
use borrow.Author.Rules.{rules}
use Rattle.cache.proofs.Lists.{chosen_other, chosen_here}
use Rattle.cache.proofs.Areas.chosen.Goals as goal

pub returns-then-part_name-range_name : goal.returns-then-part_name-range_name
returns-then-part_name-range_name c = search (rules, chosen_other)

pub returns : goal.returns
returns c = search (rules, chosen_here)

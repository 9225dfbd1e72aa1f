-- `naming::name_first` names the first candidate of a range for tracking, and flags the range's name.
use borrow.Author.Rules.{rules}
use mathlib.Core.Path.{refl}
use Rattle.naming.proofs.Firsts.{first_named, none_named}
use Rattle.naming.proofs.name_first.Goals as goal

pub returns-then-p-catalogue : goal.returns-then-p-catalogue
returns-then-p-catalogue c = let p = c.requires.name_value in
    first_named _ _ _ _ _ p.0 _ p.1 refl c.first_candidate-p.ensures (search rules) c.see.ensures (c.name_for_tracking.ensures _ _)

pub returns-else-p-catalogue : goal.returns-else-p-catalogue
returns-else-p-catalogue c = let p = c.requires.name_value in none_named _ _ _ _ _ p.0 _ p.1 refl c.first_candidate-p.ensures (search rules)

-- `condition_literals::literal_of` gives the literal of an origin that has a variable.
use borrow.Author.Rules.{rules}
use Rattle.condition_literals.proofs.Literals.{looked_low}
use Rattle.condition_literals.proofs.literal_of.Goals as goal

pub new-requires : goal.new-requires
new-requires c = search (rules, looked_low)

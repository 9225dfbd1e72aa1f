-- `listing::write` prints the listing: the two halves are the listing of the state that the areas hold.
use borrow.Author.Rules.{rules}
use native.Mathlib.Omega.{arith}
use Rattle.text.proofs.Writing.{same_reference}
use Rattle.listing.proofs.Whole.{good_rows, decisions_fit, waiting_long, whole}
use Rattle.listing.proofs.write.Goals as goal

pub first_half-requires-clause-good_rows : goal.first_half-requires-clause-good_rows
first_half-requires-clause-good_rows c = search (rules, good_rows)

pub second_half-requires-clause-good_rows : goal.second_half-requires-clause-good_rows
second_half-requires-clause-good_rows c = search (rules, good_rows)

pub second_half-requires-clause-decisions_le_variables : goal.second_half-requires-clause-decisions_le_variables
second_half-requires-clause-decisions_le_variables c = search (rules, decisions_fit)

pub second_half-requires-clause-long : goal.second_half-requires-clause-long
second_half-requires-clause-long c = search (rules, waiting_long)

pub returns : goal.returns
returns c =
    let a = same_reference c.first_half.ensures in
    let b = same_reference c.second_half.ensures in
    whole _ _ _ _ _ _ _ _ _ c.requires.good _ c.new-writer.ensures.start c.new-writer.ensures.room c.new-writer.ensures.area (grind arith) c.first_half.ensures c.second_half.ensures

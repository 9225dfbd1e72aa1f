-- `goals::true_match` tells whether a part is a matching part of a range and is decided true.
use borrow.Author.Rules.{rules}
use Rattle.goals.proofs.ByDecisions.{match_past, match_other, match_is}
use Rattle.goals.proofs.true_match.Goals as goal

pub returns-then-p-catalogue : goal.returns-then-p-catalogue
returns-then-p-catalogue c = search (rules, match_past)

pub returns-then-not-chosen : goal.returns-then-not-chosen
returns-then-not-chosen c = search (rules, match_other)

pub returns : goal.returns
returns c = search (rules, match_is)

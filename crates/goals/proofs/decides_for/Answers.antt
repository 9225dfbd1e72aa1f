-- `goals::decides_for` tells whether a decision makes a matching part of a range true.
use borrow.Author.Rules.{rules}
use Rattle.goals.proofs.ByDecisions.{decides_false, decides_other, decides_part}
use Rattle.goals.proofs.decides_for.Goals as goal

pub returns-then-not-decision : goal.returns-then-not-decision
returns-then-not-decision c = search (rules, decides_false)

pub returns-in_default : goal.returns-in_default
returns-in_default c = search (rules, decides_other)

pub returns-in-Part : goal.returns-in-Part
returns-in-Part c = search (rules, decides_part)

-- The proof of the cycle of calls {push_disjunct}: it writes the ranges of a disjunct behind others. The measure is the condition: a half has a smaller number.
use Rattle.conditions.proofs.Conditions.+push_disjunct.Given as goal

abbrev pub decreases-push_disjunct : goal.decreases-push_disjunct
decreases-push_disjunct l = l.condition

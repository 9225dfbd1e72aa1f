-- `blocking::Listing::list_condition` lists a condition. The invariant: its disjuncts before disjunct i stand in the listing.
use Rattle.conditions.specs.Disjuncts.{conditions_of}
use Rattle.blocking.proofs.Lists.{ListedUpTo}
use Rattle.blocking.proofs.Listing.list_condition.Given as goal

abbrev pub invariant-loop-i : goal.invariant-loop-i
invariant-loop-i l = ListedUpTo (conditions_of l.conditions) l.c l.i l.self

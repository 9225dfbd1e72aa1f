-- `blocking::Listing::note_all_shared` notes them of all conditions. The invariant: what is noted is so.
use Rattle.conditions.specs.Disjuncts.{conditions_of}
use Rattle.blocking.specs.Blocking.{Listed}
use Rattle.blocking.proofs.Listing.note_all_shared.Given as goal

abbrev pub invariant-loop-x : goal.invariant-loop-x
invariant-loop-x l = Listed (conditions_of l.conditions) l.self

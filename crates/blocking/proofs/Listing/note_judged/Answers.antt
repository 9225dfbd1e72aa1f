-- `blocking::Listing::note_judged` counts how often a condition was judged, and lists it in time.
use Rattle.conditions.specs.Disjuncts.{conditions_of}
use Rattle.blocking.specs.Blocking.{Listed}
use Rattle.blocking.proofs.Lists.{listed_judged}
use Rattle.blocking.proofs.Listing.note_judged.Goals as goal
use Rattle.blocking.proofs.Listing.note_judged.Goals.{in-Some, in-Some-2+then-ne, in-Some-2+else-ne, in-Some-3, in-None}

pub returns : goal.returns
returns c =
    let listed : Listed (conditions_of c.args.conditions.now) c.match-self.self = elim c.match-self.branch [
      | in-Some w ↦ rw w.self-is c.requires.listed
      | in-Some-2+then-ne w ↦ rw w.self-is w.list_condition.ensures
      | in-Some-2+else-ne w ↦ rw w.self-is c.requires.listed
      | in-Some-3 w ↦ rw w.self-is c.requires.listed
      | in-None w ↦ rw w.self-is w.note_all_shared.ensures
    ] in
    listed_judged listed _

-- `naming::name_candidates` names all candidates, or the first of each range.
use Rattle.naming.specs.Naming.{name_candidates}
use Rattle.naming.proofs.name_candidates.Goals as goal

pub returns-then-settled : goal.returns-then-settled
unfolding name_candidates
returns-then-settled c = rw c.if-settled.true c.first_candidates.ensures

pub returns-else-settled : goal.returns-else-settled
unfolding name_candidates
returns-else-settled c = rw c.if-settled.false c.all_candidates.ensures

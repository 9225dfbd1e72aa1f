use Rattle.std.proofs.Common.{arith}
use Rattle.std.proofs.lemmas.Grind.{common_steps}
use Rattle.rules.specs.Limits.{covers, needed, marks_area, unions_area, catalogue_area, clauses_area, state_area, growing_state, fixed_state, waiting_area}
use Rattle.terms.specs.Terms.{lent_of}
use Rattle.state.specs.Limits.{limits_of}
use Rattle.terms.proofs.Lent.covers.Goals as goal

pub returns-then-limits-self-2 : goal.returns-then-limits-self-2
unfolding covers needed marks_area unions_area catalogue_area clauses_area state_area growing_state fixed_state waiting_area limits_of lent_of
returns-then-limits-self-2 c = grind (arith, common_steps)

pub returns-else-limits-self-2 : goal.returns-else-limits-self-2
unfolding covers needed marks_area unions_area catalogue_area clauses_area state_area growing_state fixed_state waiting_area limits_of lent_of
returns-else-limits-self-2 c = grind (arith, common_steps)

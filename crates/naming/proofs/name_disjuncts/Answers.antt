use mathlib.Core.Path.{refl}
use Rattle.naming.proofs.Loops.{pass_start, pass_step}
use Rattle.naming.proofs.Disjuncts.{index_low, indices_end}
use Rattle.naming.proofs.name_disjuncts.Goals as goal

pub loop-index-init : goal.loop-index-init
loop-index-init c = pass_start c.requires.good

pub name_disjunct-requires-clause-q_lt_requirements : goal.name_disjunct-requires-clause-q_lt_requirements
name_disjunct-requires-clause-q_lt_requirements c = (c.requires.q_lt_requirements.0, c.requires.q_lt_requirements.1, index_low c.requires.given_indices _ c.loop-index-test.true)

pub loop-index-preserved : goal.loop-index-preserved
loop-index-preserved c = pass_step c.loop-index.invariant _ refl c.loop-index-test.true c.name_disjunct.ensures

pub returns : goal.returns
returns c = indices_end _ c.loop-index.invariant c.loop-index-test.false

use borrow.Author.Rules.{rules}
use Rattle.naming.proofs.Disjuncts.{index_low}
use Rattle.encoder.proofs.Did.{told_full, told_going}
use Rattle.handling.proofs.Steps.{firing_start, firing_known, firing_step, firing_end, firing_full}
use Rattle.handling.proofs.add_all_fired.Goals as goal

pub loop-index-init : goal.loop-index-init
loop-index-init c = firing_start _ c.requires.good c.requires.long_enough c.requires.at_hand c.requires.named c.requires.fired_known

pub returns-then-state-ne0 : goal.returns-then-state-ne0
returns-then-state-ne0 c = firing_full c.loop-index.invariant (told_full c.if-state-ne0.true)

pub returns : goal.returns
returns c = firing_end c.loop-index.invariant c.loop-index-test.false

pub add_fired-requires-clause-q_lt_requirements : goal.add_fired-requires-clause-q_lt_requirements
add_fired-requires-clause-q_lt_requirements c = (c.requires.q_lt_requirements.0, c.requires.q_lt_requirements.1, c.requires.q_lt_requirements.2, index_low c.requires.given_indices _ c.loop-index-test.true)

pub add_fired-requires-clause-disjunct_known : goal.add_fired-requires-clause-disjunct_known
add_fired-requires-clause-disjunct_known c = firing_known c.loop-index.invariant (told_going c.if-state-ne0.false) c.loop-index-test.true

pub loop-index-preserved : goal.loop-index-preserved
loop-index-preserved c = firing_step c.loop-index.invariant (told_going c.if-state-ne0.false) c.loop-index-test.true (search rules) c.add_fired.ensures

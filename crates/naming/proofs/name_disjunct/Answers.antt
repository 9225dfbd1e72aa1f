use Rattle.index.proofs.Given.{catalogued}
use mathlib.Core.Path.{refl}
use Rattle.goals.proofs.Decided.{carried}
use Rattle.firing.proofs.Required.{has_condition, there_in}
use Rattle.naming.proofs.Loops.{pass_start, pass_step}
use Rattle.naming.proofs.Disjuncts.{its_condition, index_given, its_range, disjunct_end}
use Rattle.naming.proofs.name_disjunct.Goals as goal

pub unwrap-condition-requires : goal.unwrap-condition-requires
unwrap-condition-requires c = has_condition _ _ _ _ _ _ c.requirement_at-it.ensures (catalogued c.args.catalogue.now) c.requires.q_lt_requirements.0 c.requires.q_lt_requirements.1

pub disjunct_of-disjunct-requires-clause-given : goal.disjunct_of-disjunct-requires-clause-given
disjunct_of-disjunct-requires-clause-given c =
    rw c.conditions.ensures (its_condition _ _ _ _ _ _ _ c.requirement_at-it.ensures (catalogued c.args.catalogue.now) c.requires.q_lt_requirements _ c.unwrap-condition.ensures)

pub disjunct_of-disjunct-requires-clause-there : goal.disjunct_of-disjunct-requires-clause-there
disjunct_of-disjunct-requires-clause-there c =
    there_in _ _ c.conditions.ensures (index_given _ _ _ _ _ _ _ c.requirement_at-it.ensures (catalogued c.args.catalogue.now) c.requires.q_lt_requirements _ c.unwrap-condition.ensures)

pub loop-range-init : goal.loop-range-init
loop-range-init c = pass_start c.requires.good

pub name_range-requires-clause-r_lt_ranges : goal.name_range-requires-clause-r_lt_ranges
name_range-requires-clause-r_lt_ranges c =
    its_range _ _ _ _ _ _ _ c.requirement_at-it.ensures (catalogued c.args.catalogue.now) c.requires.q_lt_requirements _ c.unwrap-condition.ensures
    (carried _ _ c.conditions.ensures c.ranges-range-items.ensures c.disjunct_of-disjunct.ensures) _ c.loop-range-test.true

pub loop-range-preserved : goal.loop-range-preserved
loop-range-preserved c = pass_step c.loop-range.invariant _ refl c.loop-range-test.true c.name_range.ensures

pub returns : goal.returns
returns c =
    disjunct_end _ _ _ _ _ _ _ c.requirement_at-it.ensures (catalogued c.args.catalogue.now) c.requires.q_lt_requirements _ c.unwrap-condition.ensures
    (carried _ _ c.conditions.ensures c.ranges-range-items.ensures c.disjunct_of-disjunct.ensures) c.loop-range.invariant c.loop-range-test.false

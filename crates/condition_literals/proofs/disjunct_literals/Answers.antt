use borrow.Author.Rules.{rules}
use Rattle.index.proofs.Given.{catalogued}
use Rattle.goals.proofs.Decided.{carried}
use Rattle.firing.proofs.Required.{has_condition, condition_given, there_in}
use Rattle.condition_literals.proofs.Literals.{disjunct_there, ranges_are, few_carried, collect_start, collect_given, collect_known, collect_step, collect_end}
use Rattle.condition_literals.proofs.disjunct_literals.Goals as goal

pub unwrap-condition-requires : goal.unwrap-condition-requires
unwrap-condition-requires c = has_condition _ _ _ _ _ _ c.requirement_at-it.ensures (catalogued c.args.catalogue.now) c.requires.q_lt_requirements.0 c.requires.q_lt_requirements.1

pub disjunct_of-disjunct-requires-clause-given : goal.disjunct_of-disjunct-requires-clause-given
disjunct_of-disjunct-requires-clause-given c =
    rw c.conditions.ensures
    (condition_given _ _ _ _ _ _ c.requirement_at-it.ensures (catalogued c.args.catalogue.now) c.requires.q_lt_requirements.0 c.requires.q_lt_requirements.1 _ c.unwrap-condition.ensures)

pub disjunct_of-disjunct-requires-clause-there : goal.disjunct_of-disjunct-requires-clause-there
disjunct_of-disjunct-requires-clause-there c =
    there_in _ _ c.conditions.ensures
    (disjunct_there _ _ _ _ _ _ _ c.requirement_at-it.ensures (catalogued c.args.catalogue.now) c.requires.q_lt_requirements.0 c.requires.q_lt_requirements.1 _ c.unwrap-condition.ensures c.requires.q_lt_requirements.2)

pub loop-range-init : goal.loop-range-init
loop-range-init c =
    collect_start _ _ _ _ _ _ _ c.requirement_at-it.ensures (catalogued c.args.catalogue.now) c.requires.q_lt_requirements.0 c.requires.q_lt_requirements.1 _ c.unwrap-condition.ensures
    (carried _ _ c.conditions.ensures c.ranges-range-items.ensures c.disjunct_of-disjunct.ensures) _ (few_carried c.ranges-range-items.ensures c.disjunct_of-disjunct.ensures) c.requires.q_lt_requirements.2 c.requires.good_state c.requires.disjunct_known

pub range_literals-count-requires-clause-count_bound : goal.range_literals-count-requires-clause-count_bound
range_literals-count-requires-clause-count_bound c = (search rules, search (rules, collect_given))

pub range_literals-count-requires-clause-range_known : goal.range_literals-count-requires-clause-range_known
range_literals-count-requires-clause-range_known c = search (rules, collect_known)

pub loop-range-preserved : goal.loop-range-preserved
loop-range-preserved c = search (rules, collect_step)

pub returns : goal.returns
returns c =
    collect_end c.loop-range.invariant
    (ranges_are _ _ _ _ _ _ _ c.requirement_at-it.ensures (catalogued c.args.catalogue.now) c.requires.q_lt_requirements.0 c.requires.q_lt_requirements.1 _ c.unwrap-condition.ensures
    (carried _ _ c.conditions.ensures c.ranges-range-items.ensures c.disjunct_of-disjunct.ensures)) c.loop-range-test.false

-- `firing::judge` says of each disjunct of a requirement whether it holds: it judges those of its condition.
use Rattle.index.proofs.Given.{catalogued}
use Rattle.firing.proofs.Judging.{judges}
use Rattle.firing.proofs.Required.{has_condition, condition_given, counted_in}
use Rattle.firing.proofs.judge.Goals as goal

pub unwrap-condition-requires : goal.unwrap-condition-requires
unwrap-condition-requires c = has_condition _ _ _ _ _ _ c.requirement_at-it.ensures (catalogued c.args.catalogue.now) c.requires.q_lt_requirements.0 c.requires.q_lt_requirements.1

pub count-count-requires : goal.count-count-requires
count-count-requires c =
    rw c.conditions.ensures (condition_given _ _ _ _ _ _ c.requirement_at-it.ensures (catalogued c.args.catalogue.now) c.requires.q_lt_requirements.0 c.requires.q_lt_requirements.1 _ c.unwrap-condition.ensures)

pub holding-flags-requires-clause-c_lt_conditions : goal.holding-flags-requires-clause-c_lt_conditions
holding-flags-requires-clause-c_lt_conditions c =
    condition_given _ _ _ _ _ _ c.requirement_at-it.ensures (catalogued c.args.catalogue.now) c.requires.q_lt_requirements.0 c.requires.q_lt_requirements.1 _ c.unwrap-condition.ensures

pub returns : goal.returns
returns c =
    judges _ _ _ _ _ _ _ c.requirement_at-it.ensures (catalogued c.args.catalogue.now) c.requires.q_lt_requirements.0 c.requires.q_lt_requirements.1 _ c.unwrap-condition.ensures
    (counted_in _ _ c.conditions.ensures c.count-count.ensures) c.holding-flags.ensures _

use borrow.Author.Rules.{rules}
use Rattle.tracking.proofs.Clauses.{agreeing_start, agreeing_below, agreeing_step, agreeing_end}
use Rattle.tracking.proofs.part_clauses.Goals as goal

pub loop-j-init : goal.loop-j-init
loop-j-init c = search (rules, agreeing_start)

pub agree-requires-clause-number_nonzero : goal.agree-requires-clause-number_nonzero
agree-requires-clause-number_nonzero c =
    let below = agreeing_below c.loop-j.invariant c.requires.helpers_below c.loop-j-test.true c.requires.number_nonzero.1 in
    (c.requires.number_nonzero.0, below.0, below.1)

pub loop-j-preserved : goal.loop-j-preserved
loop-j-preserved c = search (rules, agreeing_step)

pub returns : goal.returns
returns c = search (rules, agreeing_end)

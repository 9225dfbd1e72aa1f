-- `kit::run_within`: 7, then 3 for the length, then the records.
use borrow.Author.Rules.{rules}
use Rattle.kit.proofs.Running.{enough, run_unfit, run_overlong, run_carried}
use Rattle.kit.proofs.run_within.Goals as goal

pub returns-then-not-fit : goal.returns-then-not-fit
returns-then-not-fit c = run_unfit _ _ _ _ _ c.fit.ensures _ (search rules) c.refused.ensures

pub returns-then-length-gt65536 : goal.returns-then-length-gt65536
returns-then-length-gt65536 c = run_overlong _ _ _ _ _ c.fit.ensures _ (search rules) c.if-length-gt65536.true c.refused-then-length-gt65536.ensures

pub returns : goal.returns
returns c = run_carried _ _ _ _ _ c.fit.ensures _ (search rules) c.if-length-gt65536.false c.run.ensures c.told_outcome.ensures

pub run-requires-clause-in_bounds : goal.run-requires-clause-in_bounds
run-requires-clause-in_bounds c = let q = enough _ _ _ _ _ _ _ _ _ c.requires c.fit.ensures (search rules) in
    (q.long.marks, q.long.unions, q.long.tables, c.if-length-gt65536.false)

pub run-requires-clause-fits : goal.run-requires-clause-fits
run-requires-clause-fits c = let q = enough _ _ _ _ _ _ _ _ _ c.requires c.fit.ensures (search rules) in
    q.fits

pub run-requires-clause-long_enough : goal.run-requires-clause-long_enough
run-requires-clause-long_enough c = let q = enough _ _ _ _ _ _ _ _ _ c.requires c.fit.ensures (search rules) in
    q.areas

pub run-requires-clause-variables_nonzero : goal.run-requires-clause-variables_nonzero
run-requires-clause-variables_nonzero c = let q = enough _ _ _ _ _ _ _ _ _ c.requires c.fit.ensures (search rules) in
    (q.variables, q.clauses)

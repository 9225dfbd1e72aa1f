use borrow.Author.Rules.{rules}
use native.Mathlib.Omega.{arith}
use Rattle.index.proofs.Given.{catalogued}
use Rattle.blocking.proofs.Bars.{row_of, each_start, each_step, each_not, each_end, counted_in}
use Rattle.blocking.proofs.Blocking.each_barred.Goals as goal

pub loop-i-init : goal.loop-i-init
loop-i-init c = search (rules, each_start)

pub bar_disjunct-requires-clause-row : goal.bar_disjunct-requires-clause-row
bar_disjunct-requires-clause-row c =
    row_of _ _ _ _ (catalogued c.args.catalogue.now) c.requires.c_lt_conditions c.requires.all_stand (counted_in c.conditions.ensures c.count-i-end.ensures) c.loop-i-test.true _ (search rules)

pub returns-then-not-bar_disjunct : goal.returns-then-not-bar_disjunct
returns-then-not-bar_disjunct c = each_not c.loop-i.invariant _ (search rules) c.bar_disjunct.ensures _

pub returns : goal.returns
returns c = each_end _ _ _ _ c.loop-i.invariant c.requires.all_stand (counted_in c.conditions.ensures c.count-i-end.ensures) (omega arith)

pub loop-i-preserved : goal.loop-i-preserved
loop-i-preserved c = each_step c.loop-i.invariant _ (search rules) c.bar_disjunct.ensures (search rules)

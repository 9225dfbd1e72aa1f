use native.Mathlib.Omega.{arith}
use borrow.Author.Rules.{rules}
use Rattle.beginning.proofs.Drawn.{drawn_inside, drawn_passed, fired_start, fired_good, fired_step, fired_end, entry_given}
use Rattle.beginning.proofs.fire_drawn.Goals as goal

pub loop-e-init : goal.loop-e-init
loop-e-init c = search (rules, fired_start)

pub drawn_at-entry-requires : goal.drawn_at-entry-requires
drawn_at-entry-requires c = rw c.loop-e.invariant.did.limits (search rules)

pub fire-requires-clause-good : goal.fire-requires-clause-good
fire-requires-clause-good c = fired_good c.loop-e.invariant

pub fire-requires-clause-q_lt_requirements : goal.fire-requires-clause-q_lt_requirements
fire-requires-clause-q_lt_requirements c = (
  entry_given _ _ _ _ _ c.requires.all_given (drawn_inside _ _ _ c.loop-e-test.true) (rw c.loop-e.invariant.did.limits at c.drawn_at-entry.ensures),
  omega (arith, c.requires.long.0.waiting, c.requires.long.1, c.loop-e-test.true),
)

pub loop-e-preserved : goal.loop-e-preserved
loop-e-preserved c =
    fired_step c.loop-e.invariant _ (drawn_inside _ _ _ c.loop-e-test.true) (rw c.loop-e.invariant.did.limits at c.drawn_at-entry.ensures) c.fire.ensures

pub returns : goal.returns
returns c = fired_end c.loop-e.invariant (drawn_passed _ _ _ c.loop-e-test.false)

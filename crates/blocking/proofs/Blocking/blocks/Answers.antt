-- `blocking::Blocking::blocks` tells that no disjunct of a condition holds: it is blocked, or each disjunct has a blocked range, or it is judged by its halves.
use borrow.Author.Rules.{rules}
use mathlib.Core.Path.{sym, ◌∙◌}
use denote.Enum.Bare.{same_true, differs_true}
use Rattle.blocking.specs.contracts.Verdict.{the_type}
use Rattle.blocking.specs.Blocking.{is_blocked}
use Rattle.blocking.proofs.Judging.{blocks_known, blocks_barred, blocks_judged, blocks_open}
use Rattle.blocking.proofs.Blocking.blocks.Goals as goal

pub returns-then-self-c-clause-blocks : goal.returns-then-self-c-clause-blocks
unfolding is_blocked
returns-then-self-c-clause-blocks c = search (rules, blocks_known)

pub returns-then-barred_by_list-clause-blocks : goal.returns-then-barred_by_list-clause-blocks
returns-then-barred_by_list-clause-blocks c = search (rules, blocks_barred)

pub returns-then-eq-clause-blocks : goal.returns-then-eq-clause-blocks
returns-then-eq-clause-blocks c =
    blocks_judged _ _ _ _ c.nothing-known.ensures c.barred_by_list.ensures c.condition_verdict-verdict.ensures c.requires.c_lt_conditions (same_true the_type (search rules) _ _ (sym c.if-eq.ensures))

pub returns-clause-blocks : goal.returns-clause-blocks
returns-clause-blocks c =
    blocks_open _ _ _ _ c.nothing-known.ensures c.barred_by_list.ensures c.condition_verdict-verdict.ensures (λ i. differs_true the_type _ _ (sym c.ne.ensures ∙ i))

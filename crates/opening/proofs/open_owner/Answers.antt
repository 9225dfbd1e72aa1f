-- `opening::open_owner` opens an owner that is not open: it is listed, and its task queued.
use mathlib.Core.Path.{refl}
use borrow.Author.Rules.{rules}
use Rattle.encoder.proofs.Does.{plain_full}
use Rattle.encoder.proofs.Widening.{open_owner_widens}
use Rattle.opening.proofs.Opens.{owner_free, open_owner_again, open_owner_new}
use Rattle.opening.proofs.open_owner.Goals as goal

pub returns-then-state-ne0 : goal.returns-then-state-ne0
returns-then-state-ne0 c = search (rules, plain_full, open_owner_widens)

pub returns-then-lists : goal.returns-then-lists
returns-then-lists c = record { limits = refl; area = refl; did = λ k. open_owner_again _ _ _ _ c.requires.marked c.lists.ensures c.if-lists.true }

pub returns : goal.returns
returns c =
    let d = c.queue.ensures in
    record { limits = d.limits; area = d.area; did = λ k. open_owner_new _ _ _ _ c.requires.marked c.lists.ensures c.if-lists.false c.requires.o_bound c.push-state.ensures (d.did k) }

pub push-state-requires : goal.push-state-requires
push-state-requires c = search (rules, owner_free)

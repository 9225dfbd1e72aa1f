-- `opening::open_name` opens a name that is not open: it is listed, and its task queued.
use mathlib.Core.Path.{refl}
use borrow.Author.Rules.{rules}
use Rattle.encoder.proofs.Does.{plain_full}
use Rattle.encoder.proofs.Widening.{open_name_widens}
use Rattle.opening.proofs.Opens.{name_free, open_name_again, open_name_new}
use Rattle.opening.proofs.open_name.Goals as goal

pub returns-then-state-ne0 : goal.returns-then-state-ne0
returns-then-state-ne0 c = search (rules, plain_full, open_name_widens)

pub returns-then-lists : goal.returns-then-lists
returns-then-lists c = record { limits = refl; area = refl; did = λ k. open_name_again _ _ _ _ c.requires.marked c.lists.ensures c.if-lists.true }

pub returns : goal.returns
returns c =
    let d = c.queue.ensures in
    record { limits = d.limits; area = d.area; did = λ k. open_name_new _ _ _ _ c.requires.marked c.lists.ensures c.if-lists.false c.requires.name_bound c.push-state.ensures (d.did k) }

pub push-state-requires : goal.push-state-requires
push-state-requires c = search (rules, name_free)

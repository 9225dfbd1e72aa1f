-- `link` puts a row before those of its key that are linked.
use native.Mathlib.Omega.{arith}
use borrow.Author.Rules.{rules}
use Rattle.index.proofs.Laws.{head_low, row_low, head_room, key_room, link_room, key_low, linked_one}
use Rattle.index.proofs.building.Building.link.Goals as goal

pub key_at-requires : goal.key_at-requires
key_at-requires g c = let p = g.met.C.Chain.placed.at _ _ c.args.self.now.held.laid in search (rules, row_low)

pub number-requires : goal.number-requires
number-requires g c = let p = g.met.C.Chain.placed.at _ _ c.args.self.now.held.laid in search (rules, key_room)

pub head_at-head-requires : goal.head_at-head-requires
head_at-head-requires g c = let p = g.met.C.Chain.placed.at _ _ c.args.self.now.held.laid in search (rules, head_low, key_low)

pub link_at-link-requires : goal.link_at-link-requires
link_at-link-requires g c = let p = g.met.C.Chain.placed.at _ _ c.args.self.now.held.laid in search (rules, row_low)

pub overflow_cast-i : goal.overflow_cast-i
overflow_cast-i g c = let p = g.met.C.Chain.placed.at _ _ c.args.self.now.held.laid in record { fits = omega (arith, p.few) }

pub put_before-requires : goal.put_before-requires
put_before-requires g c =
    let p = g.met.C.Chain.placed.at _ _ c.args.self.now.held.laid in (
      head_room _ p (key_low c.requires.keyed c.requires.i_in_bounds c.key_at.ensures c.number.ensures c.key-key.ensures) c.head_at-head.ensures,
      link_room _ p c.requires.i_in_bounds c.link_at-link.ensures,
    )

pub returns-clause-linking : goal.returns-clause-linking
returns-clause-linking g c =
    let p = g.met.C.Chain.placed.at _ _ c.args.self.now.held.laid in
    linked_one p c.requires.keyed c.requires.linked c.requires.i_in_bounds c.key_at.ensures c.number.ensures c.key-key.ensures c.head_at-head.ensures c.link_at-link.ensures c.put_before.ensures

-- `next` leads to the next row of the key.
use native.Mathlib.Omega.{arith}
use borrow.Author.Rules.{rules}
use Rattle.index.proofs.Laws.{row_low, key_room, link_room, next_row_of}
use Rattle.index.proofs.chain.next.Goals as goal

pub key_at-requires : goal.key_at-requires
key_at-requires g c = let p = g.met.C.Chain.placed.at _ _ c.args.tables.now.laid in search (rules, row_low)

pub get-requires : goal.get-requires
get-requires g c = let p = g.met.C.Chain.placed.at _ _ c.args.tables.now.laid in search (rules, key_room)

pub link_at-requires : goal.link_at-requires
link_at-requires g c = let p = g.met.C.Chain.placed.at _ _ c.args.tables.now.laid in search (rules, row_low)

pub get-requires-then-key : goal.get-requires-then-key
get-requires-then-key g c = let p = g.met.C.Chain.placed.at _ _ c.args.tables.now.laid in search (rules, link_room)

pub overflow_add-result : goal.overflow_add-result
overflow_add-result g c = let p = g.met.C.Chain.placed.at _ _ c.args.tables.now.laid in omega (arith, p.few)

pub returns-then-key : goal.returns-then-key
returns-then-key g c = search (rules, next_row_of)

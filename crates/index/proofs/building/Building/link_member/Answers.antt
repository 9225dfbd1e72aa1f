-- `link_member` puts a row before those of its union that are linked, or passes it over if it is repeated.
use native.Mathlib.Omega.{arith}
use borrow.Author.Rules.{rules}
use Rattle.index.proofs.Members.{union_of_row, row_linked, row_repeated}
use Rattle.index.proofs.building.Building.link_member.Goals as goal

pub number-first-requires : goal.number-first-requires
number-first-requires c = let o = union_of_row c.args.self.now.counts c.args.self.now.unions.now _ _ c.requires.given c.requires.i_in_bounds c.member-union.ensures in omega (arith, o.low)

pub put-requires : goal.put-requires
put-requires c = let o = union_of_row c.args.self.now.counts c.args.self.now.unions.now _ _ c.requires.given c.requires.i_in_bounds c.member-union.ensures in omega (arith, o.low)

pub returns-then-not-idle-clause-threading : goal.returns-then-not-idle-clause-threading
returns-then-not-idle-clause-threading c =
    let o = union_of_row c.args.self.now.counts c.args.self.now.unions.now _ _ c.requires.given c.requires.i_in_bounds c.member-union.ensures in
    let put = rw c.set_next.ensures.others.area at c.put.ensures in
    row_linked _ _ _ _ _ _ _ c.args.self.now.held.laid c.args.self.now.held.unions_fit c.requires.i_in_bounds o c.requires.threaded c.number-first.ensures c.set_next.ensures.linked _ put

pub returns-else-not-idle-clause-threading : goal.returns-else-not-idle-clause-threading
returns-else-not-idle-clause-threading c =
    let o = union_of_row c.args.self.now.counts c.args.self.now.unions.now _ _ c.requires.given c.requires.i_in_bounds c.member-union.ensures in
    rw c.set_next.ensures.others.area
    (row_repeated _ _ _ _ _ _ _ c.args.self.now.held.laid c.args.self.now.held.unions_fit c.requires.i_in_bounds o c.requires.threaded c.number-first.ensures c.set_next.ensures.linked
    c.is_repeated-idle.ensures (search rules))

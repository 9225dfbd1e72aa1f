-- `first` leads to the first row of the key.
use native.Mathlib.Omega.{arith}
use borrow.Author.Rules.{rules}
use Rattle.index.proofs.Laws.{head_low, head_room}
use Rattle.index.proofs.chain.first.Goals as goal

pub head_at-requires : goal.head_at-requires
head_at-requires g c = let p = g.met.C.Chain.placed.at _ _ c.args.tables.now.laid in search (rules, head_low)

pub get-requires : goal.get-requires
get-requires g c = let p = g.met.C.Chain.placed.at _ _ c.args.tables.now.laid in head_room _ p (omega arith) c.head_at.ensures

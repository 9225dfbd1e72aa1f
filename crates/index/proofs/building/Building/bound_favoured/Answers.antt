-- `bound_favoured` has part i within the bounds of its name.
use native.Mathlib.Omega.{arith}
use borrow.Author.Rules.{rules}
use Rattle.index.proofs.Laws.{parts_key}
use Rattle.index.proofs.Favoured.{favoured_kept, favoured_moved}
use Rattle.index.proofs.building.Building.bound_favoured.Goals as goal

pub number-end-requires : goal.number-end-requires
number-end-requires c = let q = parts_key c.args.self.now.counts c.args.self.now.area.now c.requires.keyed c.requires.favoured.1 c.key_at.ensures c.number-name.ensures in omega (arith, q.low)

pub put-requires : goal.put-requires
put-requires c = let q = parts_key c.args.self.now.counts c.args.self.now.area.now c.requires.keyed c.requires.favoured.1 c.key_at.ensures c.number-name.ensures in omega (arith, q.low)

pub put-requires-then-end-i : goal.put-requires-then-end-i
put-requires-then-end-i c = let q = parts_key c.args.self.now.counts c.args.self.now.area.now c.requires.keyed c.requires.favoured.1 c.key_at.ensures c.number-name.ensures in omega (arith, q.low)

pub returns-then-end-i-clause-favouring : goal.returns-then-end-i-clause-favouring
returns-then-end-i-clause-favouring c = let q = parts_key c.args.self.now.counts c.args.self.now.area.now c.requires.keyed c.requires.favoured.1 c.key_at.ensures c.number-name.ensures in search (rules, favoured_moved)

pub returns-else-end-i-clause-favouring : goal.returns-else-end-i-clause-favouring
returns-else-end-i-clause-favouring c = let q = parts_key c.args.self.now.counts c.args.self.now.area.now c.requires.keyed c.requires.favoured.1 c.key_at.ensures c.number-name.ensures in search (rules, favoured_kept)

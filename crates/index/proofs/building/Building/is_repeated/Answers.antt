-- The proof of `is_repeated`: four rows before are like the row.
use mathlib.Core.Path.{◌≡◌}
use native.Mathlib.Omega.{arith}
use borrow.Author.Rules.{rules}
use Rattle.index.proofs.Members.{like_none, like_more, four_like, inside_rows}
use Rattle.index.proofs.building.Building.is_repeated.Goals as goal

pub loop-back-init : goal.loop-back-init
loop-back-init c = like_none _ _

pub loop-back-preserved : goal.loop-back-preserved
loop-back-preserved c = search (rules, like_more)

pub returns : goal.returns
returns c =
    let e : c.loop-back.back ≡ 5 = omega arith in
    four_like _ _ (inside_rows _ c.args.self.now.unions.now _ c.requires) (omega arith) (rw e at c.loop-back.invariant)

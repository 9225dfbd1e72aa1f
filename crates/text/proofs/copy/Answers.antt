-- `text::copy` copies bytes that stand before a place to it.
use borrow.Author.Rules.{rules}
use mathlib.Core.Path.{◌≡◌}
use Prim.Native.Nat.{◌+◌, ◌-◌}
use native.Mathlib.Omega.{arith}
use lib.ListN.{length-drop}
use Rattle.text.proofs.Laws.{copied_behind, copied_past}
use Rattle.text.proofs.copy.Goals as goal

pub returns-then-at-out : goal.returns-then-at-out
returns-then-at-out c =
    let back = c.split_at_mut-written.ensures.back in
    let width : c.args.begin + c.min-most.result - c.args.begin ≡ c.min-most.result = omega arith in
    copied_behind _ _ _ _ _ c.requires c.if-at-out.true (rw (back, length-drop) at c.min-most.ensures) c.split_at_mut-written.ensures.front back (rw width at c.copy_bytes.ensures)

pub returns-else-at-out : goal.returns-else-at-out
returns-else-at-out c = search (rules, copied_past)

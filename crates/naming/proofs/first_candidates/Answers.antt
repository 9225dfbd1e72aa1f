use borrow.Author.Rules.{rules}
use mathlib.Core.Path.{refl}
use Rattle.naming.proofs.Firsts.{first_seen, firsts_start, firsts_step, firsts_end}
use Rattle.naming.proofs.first_candidates.Goals as goal
use Rattle.naming.proofs.first_candidates.Goals.{then-not-is_seen, else-not-is_seen}

pub loop-j-init : goal.loop-j-init
loop-j-init c = firsts_start c.requires.good

pub loop-j-preserved : goal.loop-j-preserved
loop-j-preserved c =
    elim c.if-not-is_seen.branch [
      | then-not-is_seen w ↦
          rw (w.state-is, w.seen-is)
          (firsts_step c.loop-j.invariant c.requires.good c.requires.marked _ c.listed-r.ensures c.loop-j-test.true (search rules) w.name_first.ensures)
      | else-not-is_seen w ↦
          rw (w.state-is, w.seen-is)
          (firsts_step c.loop-j.invariant c.requires.good c.requires.marked _ c.listed-r.ensures c.loop-j-test.true refl
          (first_seen _ _ _ _ _ c.range_name-name.ensures _ c.is_seen.ensures w.if-not-is_seen.false))
    ]

pub returns : goal.returns
returns c = firsts_end c.loop-j.invariant c.requires.good c.requires.marked c.loop-j-test.false

use borrow.Author.Rules.{rules}
use Rattle.parts.proofs.Names.{naming_first, naming_due, naming_idle, naming_end}
use Rattle.parts.proofs.name_each.Goals as goal
use Rattle.parts.proofs.name_each.Goals.{then-is_due, else-is_due}

pub loop-p-init : goal.loop-p-init
loop-p-init c = search (rules, naming_first)

pub loop-p-preserved : goal.loop-p-preserved
loop-p-preserved c = elim c.if-is_due.branch [
  | then-is_due w ↦ rw w.state-is (naming_due c.loop-p.invariant c.loop-p-test.true c.next-p.ensures c.is_due.ensures w.if-is_due.true w.name_part.ensures)
  | else-is_due w ↦ rw w.state-is (naming_idle c.loop-p.invariant c.loop-p-test.true c.next-p.ensures c.is_due.ensures w.if-is_due.false)
]

pub returns : goal.returns
returns c = naming_end _ _ _ _ c.loop-p.invariant c.loop-p-test.false

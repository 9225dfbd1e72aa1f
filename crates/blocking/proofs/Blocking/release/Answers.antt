-- `blocking::Blocking::release` unblocks what may hold once a part is decided true.
use borrow.Author.Rules.{rules}
use native.Mathlib.Omega.{arith}
use Rattle.blocking.proofs.Releasing.{released, released_none, released_past}
use Rattle.blocking.proofs.Blocking.release.Goals as goal
use Rattle.blocking.proofs.Blocking.release.Goals.{then-p-ge1024-via-then-p-ge1024, then-p-ge1024-via-else-p-ge1024+then-self-p-eq0}

pub returns-then-p-ge1024 : goal.returns-then-p-ge1024
returns-then-p-ge1024 c = elim c.then-p-ge1024.branch [
  | then-p-ge1024-via-then-p-ge1024 w ↦ released_past (omega arith) w.if-p-ge1024.true
  | then-p-ge1024-via-else-p-ge1024+then-self-p-eq0 w ↦ released_none w.if-self-p-eq0.true
]

pub returns : goal.returns
returns c = search (rules, released)

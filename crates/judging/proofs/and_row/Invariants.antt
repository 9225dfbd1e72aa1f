-- `judging::and_row` puts the verdicts of an `and`. The invariants: those with the left half's before the one at i are put, and the first j of its own.
use Rattle.std.proofs.Common.{◌≡◌, ℕ, ◌<◌, ◌*◌, ◌+◌, length, get_or}
use Rattle.judging.specs.declared.Verdict.TheVariants.{Unknown}
use Rattle.judging.specs.Judging.{both}
use Rattle.judging.proofs.and_row.Given as goal

abbrev pub invariant-loop-i : goal.invariant-loop-i
invariant-loop-i l = record {
  room : length l.row ≡ 64;
  above : (a b : ℕ) → a < l.i → b < length l.right → get_or l.row (a * length l.right + b) Unknown ≡ both (get_or l.left a Unknown) (get_or l.right b Unknown);
}

abbrev pub invariant-loop-j : goal.invariant-loop-j
invariant-loop-j l = record {
  room : length l.row ≡ 64;
  above : (a b : ℕ) → a < l.i → b < length l.right → get_or l.row (a * length l.right + b) Unknown ≡ both (get_or l.left a Unknown) (get_or l.right b Unknown);
  here : (b : ℕ) → b < l.j → get_or l.row (l.i * length l.right + b) Unknown ≡ both l.v (get_or l.right b Unknown);
}

-- `judging::or_row` puts the verdicts of an `or`. The invariants: the first i of the left half's are put, and behind all of them the first j of the right half's.
use Rattle.std.proofs.Common.{◌≡◌, ℕ, ◌<◌, ◌+◌, length, get_or}
use Rattle.judging.specs.declared.Verdict.TheVariants.{Unknown}
use Rattle.judging.proofs.or_row.Given as goal

abbrev pub invariant-loop-i : goal.invariant-loop-i
invariant-loop-i l = record {
  room : length l.row ≡ 64;
  ahead : (a : ℕ) → a < l.i → get_or l.row a Unknown ≡ get_or l.left a Unknown;
}

abbrev pub invariant-loop-j : goal.invariant-loop-j
invariant-loop-j l = record {
  room : length l.row ≡ 64;
  ahead : (a : ℕ) → a < length l.left → get_or l.row a Unknown ≡ get_or l.left a Unknown;
  behind : (b : ℕ) → b < l.j → get_or l.row (length l.left + b) Unknown ≡ get_or l.right b Unknown;
}

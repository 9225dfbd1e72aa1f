-- `text::digits` meets its contract. The invariant: the digits from place i on are written, and `left` has the others.
use Rattle.text.proofs.Laws.{Digits}
use Rattle.text.proofs.digits.Given as goal

abbrev pub invariant-loop-i : goal.invariant-loop-i
invariant-loop-i l = Digits l.n l.out l.i l.left

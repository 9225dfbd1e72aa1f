use Rattle.std.proofs.Common.{ℕ, ◌<◌, ◌≤◌, ◌+◌, ◌*◌, ◌≢◌, length, get_or-set_other, get_or-set_same, below_more, arith, rules}
use native.Mathlib.Nat.{add-mul, mul-le-mul_right}
use Rattle.judging.proofs.and_row.Goals as goal

-- a place of a row stands before those of the rows behind it
before : (a b i n : ℕ) → a < i → b < n → a * n + b < i * n
before a b i n h g = let most : a + 1 ≤ i = omega arith in omega (arith, add-mul a 1 n, mul-le-mul_right n most)

pub loop-j-preserved : goal.loop-j-preserved
loop-j-preserved c = record {
  room = search rules;
  above = λ a b g h.
      let ne : a * length c.args.right.now + b ≢ c.loop-i.i * length c.args.right.now + c.loop-j.j = omega (arith, before a b c.loop-i.i (length c.args.right.now) g h) in
      rw get_or-set_other (c.loop-j.invariant.above a b g h);
  here = below_more _ _
      (λ b h. let ne : c.loop-i.i * length c.args.right.now + b ≢ c.loop-i.i * length c.args.right.now + c.loop-j.j = omega arith in rw get_or-set_other (c.loop-j.invariant.here b h))
      (let lt : c.loop-i.i * length c.args.right.now + c.loop-j.j < length c.loop-j.row = omega (arith, before c.loop-i.i c.loop-j.j (length c.args.left.now) (length c.args.right.now) c.loop-i-test.true c.loop-j-test.true) in rw get_or-set_same c.and.ensures);
}

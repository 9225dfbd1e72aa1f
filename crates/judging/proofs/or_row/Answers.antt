use Rattle.std.proofs.Common.{◌<◌, ◌+◌, ◌≢◌, length, get_or-set_other, get_or-set_same, below_more, arith, rules}
use Rattle.judging.proofs.or_row.Goals as goal

pub loop-i-preserved : goal.loop-i-preserved
loop-i-preserved c = record {
  room = search rules;
  ahead = below_more _ _
      (λ a h. let ne : a ≢ c.loop-i.i = omega arith in rw get_or-set_other (c.loop-i.invariant.ahead a h))
      (let lt : c.loop-i.i < length c.loop-i.row = omega arith in rw get_or-set_same);
}

pub loop-j-preserved : goal.loop-j-preserved
loop-j-preserved c = record {
  room = search rules;
  ahead = λ a h. let ne : a ≢ length c.args.left.now + c.loop-j.j = omega arith in rw get_or-set_other (c.loop-j.invariant.ahead a h);
  behind = below_more _ _
      (λ b h. let ne : length c.args.left.now + b ≢ length c.args.left.now + c.loop-j.j = omega arith in rw get_or-set_other (c.loop-j.invariant.behind b h))
      (let lt : length c.args.left.now + c.loop-j.j < length c.loop-j.row = omega arith in rw get_or-set_same);
}

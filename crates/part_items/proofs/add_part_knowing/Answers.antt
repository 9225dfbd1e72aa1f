use Rattle.std.proofs.Common.{rules, arith, refl}
use Rattle.std.proofs.lemmas.Result.{err_from_is_err_and}
use Rattle.tables.specs.Tables.{with_part}
use Rattle.kept.proofs.Entered.{kept_with}
use Rattle.part_items.proofs.Items.{part_full, part_nameless, part_bits}
use Rattle.part_items.proofs.Claims.{part_second, part_first, first_vacant}
use Rattle.part_items.proofs.add_part_knowing.Goals as goal

pub returns-then-tables-ge1024-clause-entered : goal.returns-then-tables-ge1024-clause-entered
returns-then-tables-ge1024-clause-entered c n m u = search (rules, part_full)

pub returns-then-tables-name-clause-entered : goal.returns-then-tables-name-clause-entered
returns-then-tables-name-clause-entered c n m u = search (rules, part_nameless)

pub returns-then-flags-gt31-clause-entered : goal.returns-then-flags-gt31-clause-entered
returns-then-flags-gt31-clause-entered c n m u = search (rules, part_bits)

pub returns-in_err-claim-clause-entered : goal.returns-in_err-claim-clause-entered
returns-in_err-claim-clause-entered c =
    let p = err_from_is_err_and c.from_residual.result c.from_residual.ensures.1 in
    rw (p.1, p.2) (part_second c.args.tables.now _ _ _ _ (omega arith) (omega arith) (omega arith) _ c.in_err-claim.ensures.claimed)

pub returns-clause-entered : goal.returns-clause-entered
returns-clause-entered c = part_first c.args.tables.now _ _ _ _ (omega arith) (omega arith) (omega arith) _ c.in_ok-claim.ensures.claimed c.push_part.new.self c.push_part.ensures.added

pub returns-clause-vacant : goal.returns-clause-vacant
returns-clause-vacant c = first_vacant c.args.tables.now _ _ _ _ (omega arith) (omega arith) (omega arith) _ c.in_ok-claim.ensures.claimed c.push_part.new.self c.push_part.ensures.added

pub returns-clause-kept : goal.returns-clause-kept
unfolding with_part
returns-clause-kept c = kept_with _ _ c.push_part.ensures.added refl refl refl

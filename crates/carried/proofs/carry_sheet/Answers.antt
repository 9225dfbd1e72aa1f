use borrow.Author.Rules.{rules}
use mathlib.Core.Path.{◌≡◌, ap}
use Rattle.std.proofs.lemmas.Result.{err_from_is_err_and}
use Rattle.refusal.specs.declared.RefusedAt.{RefusedAt}
use Rattle.blocking.proofs.Lists.{listed_none}
use Rattle.serving.proofs.Flags.{flagged_none}
use Rattle.carried.proofs.Sheets.{done_before, failed_before, left_start, left_next, left_less, left_refused, left_end}
use Rattle.carried.proofs.carry_sheet.Goals as goal

pub loop-at-init : goal.loop-at-init
loop-at-init c = record { left = search (rules, left_start); flagged = flagged_none 640; listed = search (rules, listed_none) }

pub loop-at-smaller : goal.loop-at-smaller
loop-at-smaller c =
    left_less c.loop-at.invariant.left c.requires.given c.carry_record.ensures.step_did (done_before _ c.map_err.ensures.cases c.map_err.ensures.variant c.in_ok-at.was) c.loop-at-test.true

pub loop-at-preserved : goal.loop-at-preserved
loop-at-preserved c =
    let e = done_before _ c.map_err.ensures.cases c.map_err.ensures.variant c.in_ok-at.was in
    record {
      left = left_next c.loop-at.invariant.left c.requires.given c.carry_record.ensures.step_did e c.carry_record.auto.clauses c.carry_record.auto.w;
      flagged = c.carry_record.ensures.flagged_next.flagged _ e;
      listed = c.carry_record.ensures.listed_after;
    }

pub returns : goal.returns
returns c = left_end c.loop-at.invariant.left c.loop-at-test.false

pub returns-in_err-at : goal.returns-in_err-at
returns-in_err-at c =
    let p = err_from_is_err_and c.from_residual.result c.from_residual.ensures.1 in
    let q = failed_before _ _ c.map_err.ensures.cases c.map_err.ensures.variant c.in_err-at.was in
    let e : c.in_err-at.field-0.0 ≡ record { refusal = q.0; at = c.loop-at.at } = search rules in
    rw (p.1, p.2) (left_refused c.loop-at.invariant.left c.requires.given c.carry_record.ensures.step_did (ap (λ (f : RefusedAt). f.at) e) (rw e q.1))

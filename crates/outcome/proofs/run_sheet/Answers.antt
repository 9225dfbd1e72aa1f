-- `outcome::run_sheet`: from the state at the start the sheet is carried out, and the job ends.
use Rattle.std.proofs.lemmas.Result.{err_from_is_err_and}
use Rattle.outcome.proofs.Walked.{sheet_reaches_by_reference, sheet_finished_by_reference, sheet_refused}
use Rattle.outcome.proofs.run_sheet.Goals as goal

pub carry_sheet-requires-clause-holds : goal.carry_sheet-requires-clause-holds
carry_sheet-requires-clause-holds c = c.start-state.ensures.started.holds _ _

pub finish-requires-clause-reaches : goal.finish-requires-clause-reaches
finish-requires-clause-reaches c = sheet_reaches_by_reference c.in_ok-carry_sheet.ensures c.requires.given c.as_state_ref.ensures

pub returns : goal.returns
returns c = sheet_finished_by_reference c.start-state.ensures.limits c.in_ok-carry_sheet.ensures c.as_state_ref.ensures c.finish.ensures

pub returns-in_err-carry_sheet : goal.returns-in_err-carry_sheet
returns-in_err-carry_sheet c =
    let p = err_from_is_err_and c.from_residual.result c.from_residual.ensures.1 in
    rw (p.1, p.2) (sheet_refused c.start-state.ensures.limits _ c.in_err-carry_sheet.ensures)

-- `outcome::run`: the catalogue is read, and then the sheet.
use borrow.Author.Rules.{rules}
use Rattle.std.proofs.lemmas.Result.{err_from_is_err_and}
use Rattle.outcome.proofs.Walked.{whole_catalogued, given_read, up_to_sheet, from_sheet, from_refused}
use Rattle.outcome.proofs.run.Goals as goal

pub invariant_of-tables : goal.invariant_of-tables
invariant_of-tables c = record { laid = (whole_catalogued {r = c.in_ok-read.read} c.read_whole.ensures (search rules)).kept.held.laid }

pub invariant_of-areas : goal.invariant_of-areas
invariant_of-areas c = record { held = (whole_catalogued {r = c.in_ok-read.read} c.read_whole.ensures (search rules)).kept.held }

pub invariant_of-catalogue : goal.invariant_of-catalogue
invariant_of-catalogue c = let whole = whole_catalogued {r = c.in_ok-read.read} c.read_whole.ensures (search rules) in
    record { indexed = whole.kept; formed = whole.formed }

pub run_sheet-requires-clause-up_to_sheet : goal.run_sheet-requires-clause-up_to_sheet
run_sheet-requires-clause-up_to_sheet c = up_to_sheet {r = c.in_ok-read.read} c.read_whole.ensures.read (search rules)

pub run_sheet-requires-clause-given : goal.run_sheet-requires-clause-given
run_sheet-requires-clause-given c = given_read {r = c.in_ok-read.read} c.read_whole.ensures.read (search rules)

pub returns : goal.returns
returns c = from_sheet {r = c.in_ok-read.read} c.read_whole.ensures.read (search rules) c.run_sheet.ensures

pub returns-in_err-read : goal.returns-in_err-read
returns-in_err-read c =
    let p = err_from_is_err_and c.from_residual.result c.from_residual.ensures.1 in
    rw (p.1, p.2) (from_refused _ c.read_whole.ensures.read (search rules))

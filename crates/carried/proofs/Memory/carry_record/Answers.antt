-- `carried::Memory::carry_record` takes one step of the walk, or gives the refusal of the record.
use Rattle.std.proofs.lemmas.Result.{err_from_is_err_and}
use Rattle.carried.proofs.Records.{step_unread, step_item, step_done, step_failed}
use Rattle.carried.proofs.Memory.carry_record.Goals as goal

pub returns-in_err-record-clause-step_did : goal.returns-in_err-record-clause-step_did
returns-in_err-record-clause-step_did c =
    let p = err_from_is_err_and c.from_residual.result c.from_residual.ensures.1 in
    rw (p.1, p.2) (step_unread _ _ c.requires.at_in_bounds.0 _ c.in_err-record.ensures.record)

pub returns-in-Item-clause-step_did : goal.returns-in-Item-clause-step_did
returns-in-Item-clause-step_did c = step_item _ _ c.requires.at_in_bounds.0 _ _ _ (rw c.in-Item.is at c.in_ok-record.ensures.record)

pub returns-in_err-carry_command-in-Sheet-clause-step_did : goal.returns-in_err-carry_command-in-Sheet-clause-step_did
returns-in_err-carry_command-in-Sheet-clause-step_did c =
    let p = err_from_is_err_and c.from_residual-in_err-carry_command-in-Sheet.result c.from_residual-in_err-carry_command-in-Sheet.ensures.1 in
    let e = rw c.in-Sheet.is at c.in_ok-record.ensures.record in
    rw (p.1, p.2) (step_failed _ _ c.requires.at_in_bounds.0 _ _ e c.in_ok-record.ensures.behind c.in_err-carry_command-in-Sheet.ensures.did)

pub returns-in_ok-carry_command-in-Sheet-clause-step_did : goal.returns-in_ok-carry_command-in-Sheet-clause-step_did
returns-in_ok-carry_command-in-Sheet-clause-step_did c =
    let e = rw c.in-Sheet.is at c.in_ok-record.ensures.record in
    step_done _ _ c.requires.at_in_bounds.0 _ _ e c.in_ok-record.ensures.behind c.in_ok-carry_command-in-Sheet.ensures.did

-- `carried::Memory::carry_command` carries a command out or refuses it; a draw that changes nothing it passes over.
use Rattle.std.proofs.lemmas.Result.{err_from_is_err_and}
use Rattle.carried.proofs.Records.{settled_passes, settled_carries, settled_fails}
use Rattle.carried.proofs.Memory.carry_command.Goals as goal
use Rattle.carried.proofs.Memory.carry_command.Goals.{then-not-is_idle+in_ok-carry_out, else-not-is_idle}

pub returns-clause-did : goal.returns-clause-did
returns-clause-did c =
    let notes = rw c.is_idle.ensures.kept.0 at c.note.ensures.notes in
    elim c.if-not-is_idle.branch [
      | then-not-is_idle+in_ok-carry_out w ↦
          rw (w.state-is, w.clauses-is, w.w-is, c.note.ensures.others.0) (settled_carries c.is_idle.ensures.idles w.in_ok-carry_out.ensures.command_did notes)
      | else-not-is_idle w ↦ rw (w.state-is, w.clauses-is, w.w-is, c.note.ensures.others.0) (settled_passes c.is_idle.ensures.idles w.if-not-is_idle.false notes)
    ]

pub returns-in_err-carry_out-clause-did : goal.returns-in_err-carry_out-clause-did
returns-in_err-carry_out-clause-did c =
    let p = err_from_is_err_and c.from_residual.result c.from_residual.ensures.1 in
    rw (p.1, p.2, c.is_idle.ensures.kept.0) (settled_fails c.is_idle.ensures.idles c.in_err-carry_out.ensures.command_did)

use mathlib.Core.Path.{refl}
use mathlib.Core.Bool.{false≢true}
use Rattle.std.proofs.Common.{arith}
use Rattle.std.proofs.lemmas.Result.{err_from_is_err_and}
use Rattle.kept.proofs.Vacancies.{vacant_nothing}
use Rattle.catalogue.proofs.Steps.{step_unknown, step_sheet, step_short, item_room, step_refused, step_entered, vacant_same}
use Rattle.catalogue.proofs.read_record.Goals as goal
use Rattle.catalogue.proofs.read_record.Goals.{then-eq, else-eq}

pub returns-in_err-kind-clause-record : goal.returns-in_err-kind-clause-record
returns-in_err-kind-clause-record c =
    let p = err_from_is_err_and c.from_residual.result c.from_residual.ensures.1 in
    rw (p.1, p.2) (step_unknown _ _ _ c.args.reader.inside _ c.in_err-kind.ensures)

pub returns-in-Command-clause-record : goal.returns-in-Command-clause-record
returns-in-Command-clause-record c = step_sheet _ _ _ c.args.reader.inside _ (rw c.in-Command.is at c.in_ok-kind.ensures)

pub returns-in_err-behind-in-Item-clause-record : goal.returns-in_err-behind-in-Item-clause-record
returns-in_err-behind-in-Item-clause-record c =
    let p = err_from_is_err_and c.from_residual-in_err-behind-in-Item.result c.from_residual-in_err-behind-in-Item.ensures.1 in
    let e = rw c.in-Item.is at c.in_ok-kind.ensures in
    rw (p.1, p.2) (step_short _ _ _ c.args.reader.inside _ e _ c.body_length.ensures _ c.in_err-behind-in-Item.ensures)

pub add_item-requires-clause-room : goal.add_item-requires-clause-room
add_item-requires-clause-room c = item_room _ _ _ _ _ c.body_length.ensures _ _ c.requires c.in_ok-behind-in-Item.ensures

pub returns-in_err-add_item-in-Item-clause-record : goal.returns-in_err-add_item-in-Item-clause-record
returns-in_err-add_item-in-Item-clause-record c =
    let p = err_from_is_err_and c.from_residual-in_err-add_item-in-Item.result c.from_residual-in_err-add_item-in-Item.ensures.1 in
    let e = rw c.in-Item.is at c.in_ok-kind.ensures in
    rw (p.1, p.2) (step_refused _ _ _ c.args.reader.inside _ e _ c.body_length.ensures _ _ c.requires c.in_ok-behind-in-Item.ensures _ _ _ c.in_err-add_item-in-Item.ensures.entered)

pub invariant_of-draft-then-eq : goal.invariant_of-draft-then-eq
invariant_of-draft-then-eq c = record { given = c.in_ok-add_item-in-Item.ensures.given; sized = c.in_ok-add_item-in-Item.ensures.sized; vacant = vacant_nothing 64 _ }

pub invariant_of-draft-else-eq : goal.invariant_of-draft-else-eq
invariant_of-draft-else-eq c = record {
  given = c.in_ok-add_item-in-Item.ensures.given;
  sized = c.in_ok-add_item-in-Item.ensures.sized;
  vacant = vacant_same _ _ _ _ _ _ _ _ _ _ _ _ c.in_ok-add_item-in-Item.ensures.entered (λ e. false≢true (rw e at c.if-eq.ensures)) c.args.draft.now.vacant;
}

pub returns-after-eq-clause-record : goal.returns-after-eq-clause-record
returns-after-eq-clause-record c =
    let e = rw c.in-Item.is at c.in_ok-kind.ensures in
    let b = c.in_ok-behind-in-Item.ensures in
    let q = step_entered _ _ _ c.args.reader.inside _ e _ c.body_length-in-Item.ensures _ _ c.requires (refl, omega (arith, b.0, b.1, c.body_length.ensures, c.body_length-in-Item.ensures))
    _ _ _ c.in_ok-add_item-in-Item.ensures.entered in
    elim c.if-eq.branch [
      | then-eq w ↦ rw w.draft-is q
      | else-eq w ↦ rw w.draft-is q
    ]

use Rattle.std.proofs.Common.{rules}
use Rattle.std.proofs.lemmas.Result.{err_from_is_err_and}
use Rattle.catalogue.proofs.Steps.{empty_is, start_given, start_sized, start_vacant, read_refused, read_up}
use Rattle.catalogue.proofs.read_catalogue.Goals as goal

pub invariant_of-draft : goal.invariant_of-draft
invariant_of-draft c = record { given = search (rules, start_given); sized = search (rules, start_sized); vacant = search (rules, start_vacant) }

pub returns-in_err-at : goal.returns-in_err-at
returns-in_err-at c =
    let p = err_from_is_err_and c.from_residual.result c.from_residual.ensures.1 in
    rw (p.1, p.2) (read_refused _ _ (empty_is _ _ _) _ _ _ _ c.in_err-at.ensures.records)

pub returns : goal.returns
returns c =
    read_up _ _ (empty_is _ _ _) _ _ _ _ c.read_records.new.draft c.in_ok-at.ensures.records _ (search rules) (search rules) (search rules) (search rules)

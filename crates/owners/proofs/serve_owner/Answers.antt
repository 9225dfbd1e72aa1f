-- `owners::serve_owner` serves an owner's task.
use mathlib.Core.Path.{sym, ap, ◌∙◌}
use Rattle.requirement.specs.Requirements.{owner_is}
use Rattle.owners.proofs.Serving.{root_known, part_of_law, part_given, part_unknown, part_known, served_as, served_unknown}
use Rattle.owners.proofs.serve_owner.Goals as goal
use Rattle.owners.proofs.serve_owner.Goals.{in-Part+else-has, in_default}

pub serve_unknown-requires-clause-number_nonzero : goal.serve_unknown-requires-clause-number_nonzero
serve_unknown-requires-clause-number_nonzero c = (
  c.requires.number_nonzero,
  part_given _ _ _ _ _ _ _ c.owner_by_number-owner.ensures c.in-Part.is c.requires.o_bound.1,
  part_unknown _ _ _ _ _ _ _ c.owner_by_number-owner.ensures c.in-Part.is c.has.ensures c.if-has.true,
)

pub serve_known-requires-clause-known : goal.serve_known-requires-clause-known
serve_known-requires-clause-known c =
    elim c.match-owner.branch [
      | in-Part+else-has w ↦ rw w.owner-is (part_known _ _ _ _ _ _ _ c.owner_by_number-owner.ensures w.in-Part.is w.has.ensures w.if-has.false)
      | in_default w ↦ rw w.owner-is (root_known _ _ w.in_default.not-Part)
    ]

pub returns-then-has : goal.returns-then-has
returns-then-has c = served_unknown _ _ _ _ _ _ _ c.owner_by_number-owner.ensures c.in-Part.is _ c.serve_unknown.ensures

pub returns : goal.returns
returns c =
    elim c.match-owner.branch [
      | in-Part+else-has w ↦
          served_as (rw w.owner-is (sym (part_of_law _ c.owner_by_number-owner.ensures w.in-Part.is))) _ _
          (rw w.owner-is (part_known _ _ _ _ _ _ _ c.owner_by_number-owner.ensures w.in-Part.is w.has.ensures w.if-has.false)) c.serve_known.ensures
      | in_default w ↦ served_as (ap owner_is w.owner-is ∙ c.owner_by_number-owner.ensures) _ _ (rw w.owner-is (root_known _ _ w.in_default.not-Part)) c.serve_known.ensures
    ]

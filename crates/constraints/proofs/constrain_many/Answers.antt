-- `constraints::constrain_many` names the violation and the non-matching parts, and adds the clauses unless it is full.
use mathlib.Core.Path.{refl, ◌∙◌}
use borrow.Author.Rules.{rules}
use Rattle.encoder.proofs.Steps.{good_alone}
use Rattle.encoder.proofs.Does.{at_catalogue, good_then, good_with_then, long_then}
use Rattle.parts.proofs.Names.{named_known}
use Rattle.encoder.proofs.Did.{told_going}
use Rattle.constraints.proofs.Steps.{new_is, knows_after, named_knows, known_non_matching, many_full, many_added}
use Rattle.constraints.proofs.Owners.{violation_fits}
use Rattle.constraints.proofs.constrain_many.Goals as goal

pub variable-requires-clause-origin_value : goal.variable-requires-clause-origin_value
variable-requires-clause-origin_value c = violation_fits _ (search rules)

pub name_variable-requires-clause-o_value : goal.name_variable-requires-clause-o_value
name_variable-requires-clause-o_value c = violation_fits _ (search rules)

pub name_outside-requires-clause-good : goal.name_outside-requires-clause-good
name_outside-requires-clause-good c = good_then (at_catalogue c.name_variable.ensures) (good_alone c.requires.good)

pub returns-else-state-eq0 : goal.returns-else-state-eq0
returns-else-state-eq0 c = many_full _ _ _ (new_is _ _ _ _ c.is_none-new.ensures c.variable.ensures) c.name_variable.ensures c.name_outside.ensures c.if-state-eq0.false

pub returns-then-state-eq0 : goal.returns-then-state-eq0
returns-then-state-eq0 c = many_added _ _ _ (new_is _ _ _ _ c.is_none-new.ensures c.variable.ensures) c.name_variable.ensures c.name_outside.ensures c.add_violation.ensures

pub add_violation-requires-clause-good : goal.add_violation-requires-clause-good
add_violation-requires-clause-good c = good_with_then c.name_outside.ensures (good_with_then (at_catalogue c.name_variable.ensures) c.requires.good)

pub add_violation-requires-clause-long_enough : goal.add_violation-requires-clause-long_enough
add_violation-requires-clause-long_enough c = long_then (c.name_outside.ensures.limits ∙ c.name_variable.ensures.limits) refl c.requires.long_enough

pub add_violation-requires-clause-owner_known : goal.add_violation-requires-clause-owner_known
add_violation-requires-clause-owner_known c =
    let g = good_then (at_catalogue c.name_variable.ensures) (good_alone c.requires.good) in (
      (knows_after c.name_outside.ensures g (knows_after (at_catalogue c.name_variable.ensures) (good_alone c.requires.good) c.requires.knows)).known (told_going c.if-state-eq0.true),
      (knows_after c.name_outside.ensures g (named_knows c.name_variable.ensures (good_alone c.requires.good))).known (told_going c.if-state-eq0.true),
    )

pub add_violation-requires-clause-known_unless_full : goal.add_violation-requires-clause-known_unless_full
add_violation-requires-clause-known_unless_full c = known_non_matching _ _ (named_known _ c.name_outside.ensures (good_then (at_catalogue c.name_variable.ensures) (good_alone c.requires.good)))

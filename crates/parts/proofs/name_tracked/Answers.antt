-- `parts::name_tracked`: a part gets its variable, if it has none, and is named for tracking.
use borrow.Author.Rules.{rules}
use Rattle.encoder.proofs.Does.{at_catalogue, good_then}
use Rattle.parts.proofs.Names.{part_fits, tracked_named, tracked_known}
use Rattle.parts.proofs.name_tracked.Goals as goal

pub name_for_tracking-requires-2 : goal.name_for_tracking-requires-2
name_for_tracking-requires-2 c = let g = good_then (at_catalogue c.name_variable.ensures) c.requires.good in (g.good.state.several, g.good.state.named, c.requires.p_bound)

pub returns-then-has_variable : goal.returns-then-has_variable
returns-then-has_variable c = tracked_known _ (c.has_variable.ensures c.if-has_variable.true) (c.name_for_tracking.ensures _ _)

pub returns : goal.returns
returns c = tracked_named _ (at_catalogue c.name_variable.ensures) (c.name_for_tracking-2.ensures _ _)

pub name_variable-requires-clause-o_value : goal.name_variable-requires-clause-o_value
name_variable-requires-clause-o_value c = search (rules, part_fits)
